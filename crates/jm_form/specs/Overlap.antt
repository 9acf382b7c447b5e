-- Contents as ranges of bytes, and the first two that overlap (this project's rule).
use Rattle.std.specs.Prelude.{ℕ, ◌+◌, ◌<◌, ◌≤◌, ◌≡◌, ◌≢◌, List, map, Contains}
use Rattle.jm_form.specs.declared.ranges.Range.{Range}
use Rattle.jm_form.specs.declared.rows.Compression.{Compression}
use Rattle.jm_form.specs.Entries.{Entry}
use Rattle.jm_form.specs.Rows.{judged}

-- where an entry's content stands in the contents
abbrev pub range_of : Entry → Range
range_of e = record { start = e.row.offset; slot = e.slot; end = e.row.offset + e.row.size }

-- the same by the entry's row as the compression judges it
abbrev pub range_by : Compression → Entry → Range
range_by c e = range_of (record e { row = judged c e.row })

-- where the contents of entries stand, in the order of the entries
abbrev pub ranges_of : List Entry → List Range
ranges_of es = map range_of es

-- the same by their rows as the compression judges them
abbrev pub ranges_by : Compression → List Entry → List Range
ranges_by c es = map (range_by c) es

-- the place in the contents is one of the range's
pub record Covers (r : Range) (place : ℕ) : Type 0 where
  pub from : r.start ≤ place
  pub to : place < r.end

-- the rule: two ranges of different slots have a byte in common
pub record Meets (r s : Range) : Type 0 where
  pub slots : r.slot ≢ s.slot
  pub place : ℕ
  pub first : Covers r place
  pub second : Covers s place

-- no two ranges of different slots have a byte in common
abbrev pub Apart : List Range → Type 0
Apart rs = (r s : Range) → Contains rs r → Contains rs s → Meets r s → ⊥

-- one of all ranges has a byte in common with r
abbrev pub MeetsOne : List Range → Range → Type 0
MeetsOne all r = (s : Range) × Contains all s × Meets r s

-- r is the range of the least slot of those with the property
pub record IsLeast (P : Range → Type 0) (rs : List Range) (r : Range) : Type 0 where
  pub inside : Contains rs r
  pub has : P r
  pub least : (s : Range) → Contains rs s → P s → r.slot ≤ s.slot

-- the rule: the least slot of a range that meets another one, and the least slot of those that meet
-- it
pub record IsFirstOverlap (rs : List Range) (first second : ℕ) : Type 0 where
  pub range : Range
  pub other : Range
  pub slot : range.slot ≡ first
  pub other_slot : other.slot ≡ second
  pub least : IsLeast (MeetsOne rs) rs range
  pub least_other : IsLeast (Meets range) rs other
