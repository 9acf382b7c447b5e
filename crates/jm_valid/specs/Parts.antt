-- The entries of some of an image's slots, and the parts in which they are looked for (this
-- project's rule).
use Rattle.std.specs.Prelude.{ℕ, ◌+◌, ◌-◌, ◌≡◌, ◌++◌, List, length, min, filter, filter_map}
use Rattle.std.specs.List.{range_with_len}
use Rattle.jm_form.specs.Entries.{Entry, entry_at, is_reached}
use Rattle.jm_form.specs.Overlap.{ranges_by}
use Rattle.jm_valid.specs.declared.entries.Contents.{Contents}
use Rattle.jm_valid.specs.declared.sections.Sections.{Sections}
use Rattle.jm_valid.specs.Ranges.{ranges_with_bytes}

-- of those that the slots spell, the ones that are reached
abbrev pub entries_at : Sections → List ℕ → List Entry
entries_at s slots =
    filter (is_reached s.bytes.now s.header) (filter_map (entry_at s.bytes.now s.header) slots)

-- their number, and the ranges of those that have a byte
pub record ContentsAt (s : Sections) (slots : List ℕ) (c : Contents) : Type 0 where
  pub count : c.count ≡ length (entries_at s slots)
  pub ranges : c.ranges.items ≡ ranges_with_bytes (ranges_by s.compression (entries_at s slots))

-- the slots of a table of so many, from one on: so many of them, or all that are left
abbrev pub slots_from : ℕ → ℕ → ℕ → List ℕ
slots_from all most first = range_with_len first (min (first + most) all - first)

-- those of a part of at most 4096
abbrev pub part_slots : ℕ → ℕ → List ℕ
part_slots all first = slots_from all 4096 first

-- the entries of a part, put behind those before it
pub record Joins (old new part : Contents) : Type 0 where
  pub count : new.count ≡ old.count + part.count
  pub ranges : new.ranges.items ≡ old.ranges.items ++ part.ranges.items
