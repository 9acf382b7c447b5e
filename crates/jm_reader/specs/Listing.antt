-- The entries of an image as its index alone lists them (jimage 1.0).
use Rattle.std.specs.Prelude.{ℕ, ◌≡◌, ◌≤◌, List, length, map, Ok}
use Rattle.jm_form.specs.declared.container.Header.{Header}
use Rattle.jm_form.specs.declared.rows.Compression.{Compression}
use Rattle.jm_form.specs.declared.rows.Compression.TheVariants.{Refused}
use Rattle.jm_form.specs.declared.rows.Row.{Row}
use Rattle.jm_form.specs.Entries.{Entry, content_of}
use Rattle.jm_form.specs.Head.{header_of, IsFileOf}
use Rattle.jm_form.specs.Places.{contents}
use Rattle.jm_form.specs.Validity.{SoundAs}
use Rattle.jm_reader.specs.declared.listing.Listed.{Listed}
use Rattle.jm_reader.specs.Look.{head}
use Rattle.jm_reader.specs.Walk.{entries_from}

-- the slot, the name and the row of an entry: all but its content
abbrev pub listed : Entry → ℕ × List ℕ × Row
listed e = (e.slot, e.name, e.row)

-- the same of what is handed out
abbrev pub handed : Listed → ℕ × List ℕ × Row
handed entry = (entry.slot, entry.name, entry.row)

-- the entry of an image that is listed so: its content is what its row says
abbrev pub entry_listed : List ℕ → ℕ × List ℕ × Row → Entry
entry_listed b x = record {
  slot = x.0;
  row = x.2;
  name = x.1;
  content = content_of (contents b (head b)) x.2;
}

-- the entries of the slots from one on, as they are listed
abbrev pub listed_from : List ℕ → Header → ℕ → List (ℕ × List ℕ × Row)
listed_from b h slot = map listed (entries_from b h slot)

-- the first bytes of a file, how many bytes it has, and the entries that are still to be listed
pub record ToList : Type 0 where
  pub bytes : List ℕ
  pub length : ℕ
  pub rest : List (ℕ × List ℕ × Row)

-- the bytes are no more than a file of this size has, and have this header, with which each such
-- file that begins with them is valid, its contents compressed or not
pub record IsIndexBy (c : Compression) (front : List ℕ) (size : ℕ) (h : Header) : Type 0 where
  pub within : length front ≤ size
  pub header : header_of front ≡ Ok h
  pub valid : (b : List ℕ) → IsFileOf front size b → SoundAs c b h

-- the same with no content compressed
abbrev pub IsIndex : List ℕ → ℕ → Header → Type 0
IsIndex front size h = IsIndexBy Refused front size h
