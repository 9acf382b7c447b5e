-- How far a plan has come (this project's rule): the table of the names, and what is laid out by
-- it.
use Rattle.std.specs.Prelude.{ℕ, ◌+◌, ◌*◌, ◌≡◌, ◌≢◌, ◌<◌, ◌≤◌, ◌⊎◌, List, length, map, sum}
use Rattle.std.specs.Prelude.{All, AllPairs, Option, Some, None, Result, Ok, Err, []}
use Rattle.std.specs.Prelude.{slice_index, slice_index_or}
use Rattle.jm_bytes.specs.declared.words.Order.{Order}
use Rattle.jm_form.specs.Strings.{section_of, IsZeroFree}
use Rattle.jm_strings.specs.Limit.{limit}
use Rattle.jm_form.specs.declared.rows.Row.{Row}
use Rattle.jm_form.specs.declared.trees.TreeNode.{TreeNode}
use Rattle.jm_form.specs.Greedy.{GreedyTable, first_table, word_of}
use Rattle.jm_form.specs.Layout.{rows_from, texts_of}
use Rattle.jm_form.specs.Serves.{Serves}
use Rattle.jm_redirect.specs.declared.building.Table.{Table}
use Rattle.jm_writer.specs.declared.draft.Draft.{Draft}
use Rattle.jm_writer.specs.declared.draft.PlanFault.{PlanFault}
use Rattle.jm_writer.specs.declared.draft.PlanFault.TheVariants as refusal
use Rattle.jm_writer.specs.declared.entries.Entries.{Entries}
use Rattle.jm_writer.specs.declared.interning.Interned.{Interned}
use Rattle.jm_writer.specs.declared.laying.Laid.{Laid}
use Rattle.jm_writer.specs.Drafts.{entry_limit, image_limit}
use Rattle.jm_writer.specs.Parts.{index_bytes, locations_of, places_from, places_of, rows_in_slots}
use Rattle.jm_writer.specs.Parts.{sized_as, slot_in, tail_bytes}

-- The table

-- the table is the greedy one of the names
pub record IsTable (names : List (List ℕ)) (table : Table) : Type 0 where
  pub greedy : GreedyTable
  pub first : first_table names ≡ Some greedy
  pub size : table.length ≡ greedy.length
  pub given : table.slot_of ≡ greedy.slots
  pub redirects : table.redirects ≡ greedy.redirects
  pub whole : length greedy.redirects ≡ greedy.length
  pub few : greedy.length ≤ length names + 128
  pub each : length greedy.slots ≡ length names
  pub below : All (λ slot. slot < greedy.length) greedy.slots
  pub apart : AllPairs (λ one other. one ≢ other) greedy.slots
  pub serves : Serves names table.length (map word_of table.redirects) table.slot_of
  pub led : (place : ℕ) → place < length names →
      slot_in table (slice_index_or names place []) ≡ Some (slice_index table.slot_of place)

-- what looking for a table comes to: the table, or `NoTable` where there is none
abbrev pub Tables : List (List ℕ) → Result Table PlanFault → Type 0
Tables names (Ok table) = IsTable names table
Tables names (Err (refusal.NoTable lengths)) = (lengths ≡ 64) × (first_table names ≡ None)
Tables names (Err other) = ⊥

-- The strings

-- the texts of the names, whose section isn't too long, and the places of the names' pieces
pub record AreInterned (names : List (List ℕ)) (interned : Interned) : Type 0 where
  pub texts : interned.strings ≡ texts_of names
  pub places : interned.places ≡ places_of names
  pub within : length (section_of interned.strings) ≤ limit

-- what holding the texts comes to: these, or `TooLarge` where their section is too long
abbrev pub Interns : List (List ℕ) → Result Interned PlanFault → Type 0
Interns names (Ok interned) = AreInterned names interned
Interns names (Err (refusal.TooLarge number)) =
    (number ≡ 0) × (limit < length (section_of (texts_of names)))
Interns names (Err other) = ⊥

-- What is laid out

-- entries whose names stand beside their sizes, few enough; they differ and have no zero byte
pub record AreFit (entries : Entries) : Type 0 where
  pub beside : length entries.names ≡ length entries.sizes
  pub few : length entries.names ≤ entry_limit
  pub free : All IsZeroFree entries.names
  pub differ : AllPairs (λ one other. one ≢ other) entries.names

-- the rows of the entries by slot
abbrev pub slot_rows : Entries → Table → List (Option Row)
slot_rows entries table =
    rows_in_slots table.slot_of
    (rows_from (texts_of entries.names) 0 (sized_as entries.names entries.sizes)) table.length

-- the length of an image, from its slots and the lengths of its parts
abbrev pub length_of : ℕ → ℕ → ℕ → ℕ → ℕ
length_of slots locations strings contents =
    ((28 + 8 * slots) + locations + strings) + contents

-- the length of the image of some entries
abbrev pub laid_length : Entries → Table → ℕ
laid_length entries table =
    length_of table.length (length (locations_of (slot_rows entries table)))
    (length (section_of (texts_of entries.names))) (sum entries.sizes)

-- the strings, the locations and the length of the image of some entries
pub record IsLaid (entries : Entries) (table : Table) (laid : Laid) : Type 0 where
  pub texts : laid.strings ≡ texts_of entries.names
  pub text : laid.locations.text.items ≡ locations_of (slot_rows entries table)
  pub places : laid.locations.places.items ≡ places_from 1 (slot_rows entries table)
  pub size : laid.length ≡ laid_length entries table
  pub within : laid.length ≤ image_limit

-- what laying out comes to: the parts, or `TooLarge` with its number
abbrev pub Lays : Entries → Table → Result Laid PlanFault → Type 0
Lays entries table (Ok laid) = IsLaid entries table laid
Lays entries table (Err (refusal.TooLarge number)) =
    ((number ≡ 0) × (limit < length (section_of (texts_of entries.names))))
    ⊎ ((number ≡ laid_length entries table) × (image_limit < number)
    × (length (section_of (texts_of entries.names)) ≤ limit))
Lays entries table (Err other) = ⊥

-- The draft, by what is laid out

-- the draft is what its parts make: its index, the contents of its nodes, its length, its slots
pub record IsDrawn (words : Order) (entries : Entries) (table : Table) (laid : Laid)
    (nodes : List TreeNode) (draft : Draft) : Type 0 where
  pub order : draft.order ≡ words
  pub index : draft.index ≡ index_bytes words (length entries.names)
      (map word_of table.redirects) laid.locations.places.items
      laid.locations.text.items (section_of laid.strings)
  pub tail : draft.tail ≡
      tail_bytes words laid.strings table laid.locations.places.items nodes
  pub size : draft.length ≡ laid.length
  pub slots : draft.slots ≡ table.length
