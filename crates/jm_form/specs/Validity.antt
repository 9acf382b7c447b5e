-- Which bytes are an image, and what an image stands for (jimage 1.0; JEP 220 for the nodes).
use Rattle.std.specs.Prelude.{ℕ, ◌+◌, ◌<◌, ◌≤◌, ◌≡◌, true, not, List, length, filter, map, Option}
use Rattle.std.specs.Prelude.{None, option_map, Ok, Err, Result, IsPermutation}
use Rattle.jm_names.specs.Names.{is_node}
use Rattle.jm_form.specs.declared.container.Header.{Header}
use Rattle.jm_form.specs.declared.container.HeaderFault.{HeaderFault}
use Rattle.jm_form.specs.declared.rows.Compression.{Compression}
use Rattle.jm_form.specs.declared.rows.Compression.TheVariants.{Allowed, Refused}
use Rattle.jm_form.specs.declared.rows.Row.{Row}
use Rattle.jm_form.specs.Damages.{slot_fault, slot_fault_with}
use Rattle.jm_form.specs.Entries.{Entry, entries, entry_with}
use Rattle.jm_form.specs.Head.{header_of}
use Rattle.jm_form.specs.Overlap.{Apart, ranges_by}
use Rattle.jm_form.specs.Places.{strings, contents}
use Rattle.jm_form.specs.Texts.{text_ends}

-- no slot has a fault, spare ones included, with contents of so many bytes
abbrev pub SoundSlotsWith : Compression → List ℕ → Header → ℕ → Type 0
SoundSlotsWith c b h size = (i : ℕ) → i < h.length → slot_fault_with c b h size i ≡ None

-- no slot has a fault, spare ones included, with no content compressed
abbrev pub SoundSlots : List ℕ → Header → Type 0
SoundSlots b h = (i : ℕ) → i < h.length → slot_fault b h i ≡ None

-- the bytes are an image whose header is h and whose contents may be compressed or not: no slot has
-- a fault, the count is the number of its entries, and no two contents have a byte in common
pub record SoundAs (c : Compression) (b : List ℕ) (h : Header) : Type 0 where
  pub header : header_of b ≡ Ok h
  pub slots : SoundSlotsWith c b h (length (contents b h))
  pub count : h.count ≡ length (entries b h)
  pub apart : Apart (ranges_by c (entries b h))

-- the bytes are an image whose header is h, with no content compressed
abbrev pub ValidAs : List ℕ → Header → Type 0
ValidAs b h = SoundAs Refused b h

-- the bytes are an image whose header is h, read as stored
abbrev pub StoredAs : List ℕ → Header → Type 0
StoredAs b h = SoundAs Allowed b h

-- the bytes are an image: there is a header by which they are valid
abbrev pub Valid : List ℕ → Type 0
Valid b = (h : Header) × ValidAs b h

-- the bytes are an image, read as stored
abbrev pub Stored : List ℕ → Type 0
Stored b = (h : Header) × StoredAs b h

-- what a row keeps in a slot without a fault: the content is stored as it is, the four texts end in
-- the strings, and the content lies in contents of so many bytes
pub record SoundRowWith (section : List ℕ) (size : ℕ) (row : Row) : Type 0 where
  pub stored : row.packed ≡ 0
  pub module_ends : text_ends section row.module ≡ true
  pub parent_ends : text_ends section row.parent ≡ true
  pub base_ends : text_ends section row.base ≡ true
  pub ext_ends : text_ends section row.ext ≡ true
  pub within : row.offset + row.size ≤ size

-- the same, with the strings and the contents of the bytes
abbrev pub SoundRow : List ℕ → Header → Row → Type 0
SoundRow b h row = SoundRowWith (strings b h) (length (contents b h)) row

-- the entries whose name isn't that of a node, with their contents
abbrev pub resources : List Entry → List (List ℕ × List ℕ)
resources es = map (λ e. (e.name, e.content)) (filter (λ e. not (is_node e.name)) es)

-- a valid image whose resources are exactly these pairs, each once
abbrev pub Stands : List ℕ → List (List ℕ × List ℕ) → Type 0
Stands b m = (h : Header) × ValidAs b h × IsPermutation (resources (entries b h)) m

-- the look-up: row and content of the entry of a name

-- row and content of an entry
abbrev pub entry_found : Entry → Row × List ℕ
entry_found e = (e.row, e.content)

-- row and content of the entry of a name, by what was read as the header
abbrev pub look_with : List ℕ → List ℕ → Result Header HeaderFault → Option (Row × List ℕ)
look_with b name (Err fault) = None
look_with b name (Ok h) = option_map entry_found (entry_with name (entries b h))

-- row and content of the entry of a name, or none where the bytes have no header or no such entry
abbrev pub look : List ℕ → List ℕ → Option (Row × List ℕ)
look b name = look_with b name (header_of b)
