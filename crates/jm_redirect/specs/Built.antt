-- The table that is built (jimage 1.0).
use Rattle.std.specs.Prelude.{ℕ, ◌≡◌, ◌%◌, List, length, map, All, None}
use Rattle.std.specs.Prelude.{slice_index_or}
use Rattle.jm_form.specs.declared.table.Redirect.{Redirect}
use Rattle.jm_form.specs.declared.table.Redirect.TheVariants.{Nowhere}
use Rattle.jm_form.specs.Greedy.{GreedyTable, greedy, table_lengths, word_of}
use Rattle.jm_form.specs.Serves.{Serves}
use Rattle.jm_redirect.specs.declared.building.NoTable.{NoTable}
use Rattle.jm_redirect.specs.declared.building.Table.{Table}

-- the redirect of a hash's bucket
abbrev pub redirect_at : List Redirect → ℕ → Redirect
redirect_at redirects hash = slice_index_or redirects (hash % length redirects) Nowhere

-- a greedy table, as the code has it
abbrev pub as_table : GreedyTable → Table
as_table table = record {
  length = table.length;
  redirects = table.redirects;
  slot_of = table.slots;
}

-- none of the 64 lengths has a table, and that number is told
abbrev pub IsRefusal : List (List ℕ) → NoTable → Type 0
IsRefusal names none =
    (none.0 ≡ 64) × All (λ slots. greedy names slots ≡ None) (table_lengths (length names))

-- the words of the table's redirects lead each name to its slot, and no two names share one
abbrev pub ServesNames : List (List ℕ) → Table → Type 0
ServesNames names table =
    Serves names table.length (map word_of table.redirects) table.slot_of
