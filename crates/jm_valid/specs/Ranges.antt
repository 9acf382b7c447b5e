-- Ranges of contents in the order of their starts, and the least of those with a property (this
-- project's rule).
use Rattle.std.specs.Prelude.{◌≤◌, ◌≢◌, nat_lt, List, filter, Option, Some, None, Contains}
use Rattle.jm_form.specs.declared.ranges.Range.{Range}
use Rattle.jm_form.specs.Overlap.{IsLeast}

-- the ranges that have a byte
abbrev pub ranges_with_bytes : List Range → List Range
ranges_with_bytes rs = filter (λ r. nat_lt r.start r.end) rs

-- the range of the least slot of those with the property, or none where no range has it
abbrev pub IsLeastIfAny : (Range → Type 0) → List Range → Option Range → Type 0
IsLeastIfAny P rs None = (r : Range) → Contains rs r → P r → ⊥
IsLeastIfAny P rs (Some r) = IsLeast P rs r

-- t starts at or behind the start of r, and is of another slot
abbrev pub Follows : Range → Range → Type 0
Follows r t = (r.start ≤ t.start) × (r.slot ≢ t.slot)
