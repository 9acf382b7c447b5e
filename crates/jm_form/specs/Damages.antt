-- What can be wrong with the bytes of an image, in a stated order: the first of it is their damage
-- (this project's rule). A content may be compressed where the `Compression` allows it, and counts
-- then as it is stored.
use Rattle.std.specs.Prelude.{ℕ, ◌-◌, ◌==◌, nat_lt, nat_le, ◌&&◌, not, Bool, List, [], ◌∷◌, ◌++◌}
use Rattle.std.specs.Prelude.{length, map, Option, Some, None, is_none, option_map, Result, Ok, Err}
use Rattle.jm_bytes.specs.Checks.{fault_if, first_fault}
use Rattle.jm_form.specs.declared.container.Header.{Header}
use Rattle.jm_form.specs.declared.container.HeaderFault.{HeaderFault}
use Rattle.jm_form.specs.declared.damage.Damage.{Damage}
use Rattle.jm_form.specs.declared.damage.Damage.TheVariants as damage
use Rattle.jm_form.specs.declared.rows.Compression.{Compression}
use Rattle.jm_form.specs.declared.rows.Compression.TheVariants.{Allowed, Refused}
use Rattle.jm_form.specs.declared.rows.Row.{Row}
use Rattle.jm_form.specs.ComputedOverlap.{first_overlap}
use Rattle.jm_form.specs.ComputedRows.{row_front}
use Rattle.jm_form.specs.Entries.{Entry, slots, row_text, row_at, entries}
use Rattle.jm_form.specs.Head.{header_of, header_with}
use Rattle.jm_form.specs.Overlap.{ranges_by}
use Rattle.jm_form.specs.Places.{offset_word, strings, contents, contents_size}
use Rattle.jm_form.specs.Rows.{judged}
use Rattle.jm_form.specs.Texts.{text_ends}

-- the content lies in contents of so many bytes
abbrev pub content_fits : Row → ℕ → Bool
content_fits row size = nat_le row.size size && nat_le row.offset (size - row.size)

-- what can be wrong with slot i, whose row isn't blank, over the strings and the size of the
-- contents: compressed, the four texts, the content
abbrev pub row_checks : ℕ → List ℕ → ℕ → Row → List (Option Damage)
row_checks i section size row =
    fault_if (not (row.packed == 0)) (damage.Compressed i)
    ∷ fault_if (not (text_ends section row.module)) (damage.Text i 1)
    ∷ fault_if (not (text_ends section row.parent)) (damage.Text i 2)
    ∷ fault_if (not (text_ends section row.base)) (damage.Text i 3)
    ∷ fault_if (not (text_ends section row.ext)) (damage.Text i 4)
    ∷ fault_if (not (content_fits row size)) (damage.Range i)
    ∷ []

-- the same of a slot that may have no row, by the row as the compression judges it: where there is
-- none there is nothing to check
abbrev pub entry_checks : Compression → ℕ → List ℕ → ℕ → Option Row → List (Option Damage)
entry_checks c i section size None = []
entry_checks c i section size (Some row) = row_checks i section size (judged c row)

-- what can be wrong with slot i, whether it holds an entry or not: its offset word, its row, and
-- what the row says; the contents, of which the bytes may hold none, have so many bytes
abbrev pub slot_checks : Compression → List ℕ → Header → ℕ → ℕ → List (Option Damage)
slot_checks c b h size i =
    fault_if (not (nat_lt (offset_word b h i) h.locations)) (damage.Offset i)
    ∷ fault_if (is_none (row_front (row_text b h i))) (damage.Row i)
    ∷ entry_checks c i (strings b h) size (row_at b h i)

-- the first fault of a slot, with contents of so many bytes
abbrev pub slot_fault_with : Compression → List ℕ → Header → ℕ → ℕ → Option Damage
slot_fault_with c b h size i = first_fault (slot_checks c b h size i)

-- the first fault of a slot, with the contents that stand behind the index, none compressed
abbrev pub slot_fault : List ℕ → Header → ℕ → Option Damage
slot_fault b h i = slot_fault_with Refused b h (length (contents b h)) i

-- the first fault of each slot, by rising slot, with contents of so many bytes
abbrev pub slot_faults : Compression → List ℕ → Header → ℕ → List (Option Damage)
slot_faults c b h size = map (slot_fault_with c b h size) (slots h)

-- what can be wrong with entries of which so many were stated: their count, an overlap
abbrev pub entries_checks : Compression → ℕ → List Entry → List (Option Damage)
entries_checks c stated es =
    fault_if (not (stated == length es)) (damage.Count stated (length es))
    ∷ option_map (λ o. damage.Overlap o.0 o.1) (first_overlap (ranges_by c es))
    ∷ []

-- what can be wrong with an image that has a header, with contents of so many bytes: each slot's
-- fault, then the count, then the overlap
abbrev pub image_checks : Compression → List ℕ → Header → ℕ → List (Option Damage)
image_checks c b h size = slot_faults c b h size ++ entries_checks c h.count (entries b h)

-- the damage of a file of so many bytes that begins with these, by what was read as the header
abbrev pub front_damage_with :
    Compression → List ℕ → ℕ → Result Header HeaderFault → Option Damage
front_damage_with c front size (Err fault) = Some (damage.Header fault)
front_damage_with c front size (Ok h) =
    first_fault (image_checks c front h (contents_size size h))

-- the damage of a file of so many bytes that begins with these, which hold its index
abbrev pub front_damage : Compression → List ℕ → ℕ → Option Damage
front_damage c front size = front_damage_with c front size (header_with front size)

-- the damage, by what was read as the header
abbrev pub damage_with : Compression → List ℕ → Result Header HeaderFault → Option Damage
damage_with c b (Err fault) = Some (damage.Header fault)
damage_with c b (Ok h) = first_fault (image_checks c b h (length (contents b h)))

-- the header's fault, else the first of the image's checks that finds one, else none
abbrev pub damage_by : Compression → List ℕ → Option Damage
damage_by c b = damage_with c b (header_of b)

-- the damage of an image in which no content may be compressed
abbrev pub first_damage : List ℕ → Option Damage
first_damage b = damage_by Refused b

-- the damage of an image whose contents may be compressed, read as stored
abbrev pub stored_damage : List ℕ → Option Damage
stored_damage b = damage_by Allowed b
