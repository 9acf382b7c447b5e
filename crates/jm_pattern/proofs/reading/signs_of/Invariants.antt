use Rattle.std.proofs.Common.{◌≡◌, ◌-◌, ◌≤◌, length}
use Rattle.jm_pattern.specs.ComputedReading.{with_front, signs_from}
use Rattle.jm_pattern.proofs.reading.signs_of.Given as goal

abbrev pub invariant-loop-rest : goal.invariant-loop-rest
invariant-loop-rest l = record {
  within : length l.rest ≤ length l.text;
  reads : signs_from 0 l.text ≡ with_front l.signs (signs_from (length l.text - length l.rest) l.rest);
}

abbrev pub decreases-loop-rest : goal.decreases-loop-rest
decreases-loop-rest l = length l.rest
