-- What a sweep over ranges by rising start knows of those that it has passed (this project's rule).
use Rattle.std.specs.Prelude.{◌≤◌, List, Contains}
use Rattle.jm_form.specs.declared.ranges.Range.{Range}
use Rattle.jm_form.specs.Overlap.{MeetsOne}
use Rattle.jm_valid.specs.declared.overlap.Sweep.{Sweep}
use Rattle.jm_valid.specs.Ranges.{IsLeastIfAny}

-- no range passed reaches further than `furthest`, and `least` has the least slot of those that
-- have a byte in common with another one that was passed
pub record Swept (passed : List Range) (sweep : Sweep) : Type 0 where
  pub seen : Contains passed sweep.furthest
  pub reach : (r : Range) → Contains passed r → r.end ≤ sweep.furthest.end
  pub least : IsLeastIfAny (MeetsOne passed) passed sweep.least
