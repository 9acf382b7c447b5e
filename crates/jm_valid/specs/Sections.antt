-- What the sections of an image say of it, in the words of jm_form.
use Rattle.std.specs.Prelude.{ℕ, ◌≡◌, List, Option, Some, None, Ok, if◌then◌else◌}
use Rattle.jm_bytes.specs.Checks.{first_fault}
use Rattle.jm_form.specs.declared.damage.Damage.{Damage}
use Rattle.jm_form.specs.declared.ranges.Range.{Range}
use Rattle.jm_form.specs.declared.rows.Row.{Row}
use Rattle.jm_form.specs.Damages.{entries_checks, image_checks, row_checks, slot_fault_with}
use Rattle.jm_form.specs.Entries.{Entry, entries, entry_of, is_reached, row_at}
use Rattle.jm_form.specs.Head.{header_with}
use Rattle.jm_form.specs.Overlap.{ranges_by}
use Rattle.jm_form.specs.Places.{contents_size, strings}
use Rattle.jm_form.specs.Rows.{judged}
use Rattle.jm_form.specs.Validity.{SoundSlotsWith}
use Rattle.jm_valid.specs.declared.sections.Sections.{Sections}

-- The parts of the bytes

-- they are those of a file of so many bytes that begins with these
pub record AreSectionsOf (front : List ℕ) (length : ℕ) (s : Sections) : Type 0 where
  pub bytes : s.bytes.now ≡ front
  pub header : header_with front length ≡ Ok s.header
  pub size : s.size ≡ contents_size length s.header

-- the strings of the image whose sections these are
abbrev pub strings_in : Sections → List ℕ
strings_in s = strings s.bytes.now s.header

-- Slots

-- the first fault of a slot with a row that isn't blank
abbrev pub row_fault_in : Sections → ℕ → Row → Option Damage
row_fault_in s slot row =
    first_fault (row_checks slot (strings_in s) s.size (judged s.compression row))

-- the first fault of a slot
abbrev pub slot_fault_in : Sections → ℕ → Option Damage
slot_fault_in s slot = slot_fault_with s.compression s.bytes.now s.header s.size slot

-- no slot has a fault
abbrev pub IsSound : Sections → Type 0
IsSound s = SoundSlotsWith s.compression s.bytes.now s.header s.size

-- Entries

-- the entries of the image whose sections these are, with as much of their contents as the bytes
-- have
abbrev pub entries_in : Sections → List Entry
entries_in s = entries s.bytes.now s.header

-- where their contents stand
abbrev pub ranges_in : Sections → List Range
ranges_in s = ranges_by s.compression (entries_in s)

-- a row, if there is one and the table leads its name to the slot
abbrev pub row_if_reached : Sections → ℕ → Option Row → Option Row
row_if_reached s slot None = None
row_if_reached s slot (Some row) =
    if is_reached s.bytes.now s.header (entry_of s.bytes.now s.header slot row) then Some row
    else None

-- the row of the entry of a slot, or none where the slot is spare: its row is blank, or the table
-- leads the row's name elsewhere
abbrev pub entry_row_in : Sections → ℕ → Option Row
entry_row_in s slot = row_if_reached s slot (row_at s.bytes.now s.header slot)

-- the wrong count, else the first overlap
abbrev pub entries_damage_in : Sections → Option Damage
entries_damage_in s = first_fault (entries_checks s.compression s.header.count (entries_in s))

-- the first damage behind the header
abbrev pub body_damage_in : Sections → Option Damage
body_damage_in s = first_fault (image_checks s.compression s.bytes.now s.header s.size)
