use Rattle.std.proofs.Common.{take}
use Rattle.jm_form.specs.Overlap.{Meets}
use Rattle.jm_valid.specs.Ranges.{IsLeastIfAny}
use Rattle.jm_valid.proofs.overlap.least_partner.Given as goal

abbrev pub invariant-loop-other : goal.invariant-loop-other
invariant-loop-other l = IsLeastIfAny (Meets l.range) (take l.other-index l.ranges) l.least
