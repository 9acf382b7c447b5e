-- The entries of an image: rows, names and contents of its slots (jimage 1.0; which rows are blank
-- and which slots are spare is this project's rule).
use Rattle.std.specs.Prelude.{ℕ, ◌==◌, ◌<◌, ◌^◌, nat_lt, Bool, ◌&&◌, List, length, take, drop}
use Rattle.std.specs.Prelude.{filter, filter_map, find}
use Rattle.std.specs.Prelude.{Option, Some, None, option_map, if◌then◌else◌}
use Rattle.std.specs.List.{range_with_len}
use Rattle.std.specs.Str.{bytes_eq}
use Rattle.jm_names.specs.Names.{Cut, join}
use Rattle.jm_form.specs.declared.container.Header.{Header}
use Rattle.jm_form.specs.declared.rows.Row.{Row}
use Rattle.jm_form.specs.declared.slots.SlotRow.{SlotRow}
use Rattle.jm_form.specs.declared.slots.SlotRow.TheVariants as slot_row
use Rattle.jm_form.specs.ComputedRows.{row_front}
use Rattle.jm_form.specs.Places.{offset_word, locations, strings, contents}
use Rattle.jm_form.specs.Table.{probe, is_slot}
use Rattle.jm_form.specs.Texts.{text_at, text_ends}

-- Rows of slots

-- the numbers of the slots
abbrev pub slots : Header → List ℕ
slots h = range_with_len 0 h.length

-- the locations from the place of a slot's offset word on
abbrev pub row_text : List ℕ → Header → ℕ → List ℕ
row_text b h i = drop (offset_word b h i) (locations b h)

-- what a reading of a row comes to: unspelled, or the row; a row that one byte spells is blank
abbrev pub row_read : Option (Row × ℕ) → SlotRow
row_read None = slot_row.Unspelled
row_read (Some r) = if r.1 == 1 then slot_row.Blank else slot_row.Spelled r.0

-- what stands at a place of the locations, or that the place is outside
abbrev pub row_at_place : List ℕ → Header → ℕ → SlotRow
row_at_place b h place =
    if nat_lt place h.locations then row_read (row_front (drop place (locations b h)))
    else slot_row.Outside

-- what a slot's offset word leads to
abbrev pub row_of_slot : List ℕ → Header → ℕ → SlotRow
row_of_slot b h i = row_at_place b h (offset_word b h i)

-- the row that was found, if one that isn't blank was
abbrev pub spelled_row : SlotRow → Option Row
spelled_row (slot_row.Spelled row) = Some row
spelled_row other = None

-- the row of a slot, or none where it is blank or isn't there
abbrev pub row_at : List ℕ → Header → ℕ → Option Row
row_at b h i = spelled_row (row_of_slot b h i)

-- Entries

-- a slot, its row, its name and its content
pub record Entry : Type 0 where
  pub slot : ℕ
  pub row : Row
  pub name : List ℕ
  pub content : List ℕ

-- the join of the four texts of a row
abbrev pub name_of : List ℕ → Row → List ℕ
name_of section row = join (record {
  «module» = text_at section row.module;
  parent = text_at section row.parent;
  base = text_at section row.base;
  ext = text_at section row.ext;
})

-- the four texts of a row end in the strings
abbrev pub texts_end : List ℕ → Row → Bool
texts_end section row =
    text_ends section row.module && text_ends section row.parent && text_ends section row.base
    && text_ends section row.ext

-- each piece of a name has fewer than 2^32 bytes, as the strings of an image have
pub record ShortPieces (cut : Cut) : Type 0 where
  pub «module» : length cut.module < 2 ^ 32
  pub parent : length cut.parent < 2 ^ 32
  pub base : length cut.base < 2 ^ 32
  pub ext : length cut.ext < 2 ^ 32

-- the row's size of bytes from its offset on
abbrev pub content_of : List ℕ → Row → List ℕ
content_of section row = take row.size (drop row.offset section)

-- the entry that a row makes of a slot
abbrev pub entry_of : List ℕ → Header → ℕ → Row → Entry
entry_of b h i row = record {
  slot = i;
  row = row;
  name = name_of (strings b h) row;
  content = content_of (contents b h) row;
}

-- what the index says of an entry: all but its content
abbrev pub indexed : Entry → ℕ × Row × List ℕ
indexed e = (e.slot, e.row, e.name)

-- the entry that a slot spells, or none where it has no row
abbrev pub entry_at : List ℕ → Header → ℕ → Option Entry
entry_at b h i = option_map (entry_of b h i) (row_at b h i)

-- the table leads the entry's own name to its slot
abbrev pub is_reached : List ℕ → Header → Entry → Bool
is_reached b h e = is_slot e.slot (probe b h e.name)

-- the entries by rising slot: of those that the slots spell, the ones that are reached
abbrev pub entries : List ℕ → Header → List Entry
entries b h = filter (is_reached b h) (filter_map (entry_at b h) (slots h))

-- the first entry of a name, or none
abbrev pub entry_with : List ℕ → List Entry → Option Entry
entry_with name es = find (λ e. bytes_eq name e.name) es
