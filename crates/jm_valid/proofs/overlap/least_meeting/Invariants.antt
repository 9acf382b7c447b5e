use Rattle.std.proofs.Common.{◌+◌, take}
use Rattle.jm_valid.specs.Sweep.{Swept}
use Rattle.jm_valid.proofs.overlap.least_meeting.Given as goal

abbrev pub invariant-loop-range : goal.invariant-loop-range
invariant-loop-range l = Swept (take (l.range-index + 1) l.ranges) l.sweep
