-- What `plan` answers of a pool (this project's rule): the parts of its layout, or else the first
-- refusal that holds.
use Rattle.std.specs.Prelude.{ℕ, ◌≡◌, ◌<◌, ◌≤◌, nat_lt, List, length, if◌then◌else◌}
use Rattle.std.specs.Prelude.{Some, None, Result, Ok, Err}
use Rattle.jm_bytes.specs.declared.words.Order.{Order}
use Rattle.jm_form.specs.Strings.{section_of}
use Rattle.jm_strings.specs.Limit.{limit}
use Rattle.jm_form.specs.Greedy.{GreedyTable}
use Rattle.jm_form.specs.Layout.{Written, all_sized, contents_text, index_text, layout_index}
use Rattle.jm_form.specs.Layout.{layout_table, layout_with, names_of, written_nodes}
use Rattle.jm_form.specs.Trees.{first_clash}
use Rattle.jm_writer.specs.declared.draft.Draft.{Draft}
use Rattle.jm_writer.specs.declared.draft.PlanFault.{PlanFault}
use Rattle.jm_writer.specs.declared.draft.PlanFault.TheVariants as refusal

-- the most entries that an image has
abbrev pub entry_limit : ℕ
entry_limit = 1048576

-- the most bytes that an image has
abbrev pub image_limit : ℕ
image_limit = 1073741824

-- the draft is that of the pool's layout: names and sizes of all entries are known before any
-- content, so its index is that of the layout
pub record IsDraft (words : Order) (pool : List Written) (draft : Draft) : Type 0 where
  pub table : GreedyTable
  pub has_table : layout_table pool ≡ Some table
  pub apart : first_clash (names_of pool) ≡ None
  pub few : length (all_sized pool) ≤ entry_limit
  pub order : draft.order ≡ words
  pub index : draft.index ≡ index_text (layout_index words table pool)
  pub tail : draft.tail ≡ contents_text (written_nodes (layout_index words table pool) pool)
  pub size : draft.length ≡ length (layout_with words pool table)
  pub within : length (layout_with words pool table) ≤ image_limit
  pub slots : draft.slots ≡ table.length

-- Refusals

-- no name is that of another's folder
abbrev pub NoClash : List Written → Type 0
NoClash pool = first_clash (names_of pool) ≡ None

-- no name is that of another's folder, and there are few enough entries
pub record IsSmall (pool : List Written) : Type 0 where
  pub apart : NoClash pool
  pub few : length (all_sized pool) ≤ entry_limit

-- the number of an image that is too large: its length, or 0 where its strings alone are too long
abbrev pub large_number : Order → List Written → GreedyTable → ℕ
large_number order pool table =
    if nat_lt limit (length (section_of (layout_index order table pool).texts)) then 0
    else length (layout_with order pool table)

-- the image by the pool's table is too large, and this is its number
pub record IsLarge (order : Order) (pool : List Written) (stated : ℕ) : Type 0 where
  pub table : GreedyTable
  pub has_table : layout_table pool ≡ Some table
  pub long : image_limit < length (layout_with order pool table)
  pub number : stated ≡ large_number order pool table

-- what `plan` answers: the draft, or the first refusal that holds, with its number
abbrev pub Plans : Order → List Written → Result Draft PlanFault → Type 0
Plans order pool (Ok draft) = IsDraft order pool draft
Plans order pool (Err (refusal.Clash name)) = first_clash (names_of pool) ≡ Some name
Plans order pool (Err (refusal.TooMany number)) =
    NoClash pool × (entry_limit < number) × (number ≡ length (all_sized pool))
Plans order pool (Err (refusal.NoTable lengths)) =
    IsSmall pool × (lengths ≡ 64) × (layout_table pool ≡ None)
Plans order pool (Err (refusal.TooLarge number)) = IsSmall pool × IsLarge order pool number
