use Rattle.std.proofs.Common.{length}
use Rattle.jm_pattern.specs.ReadingSteps.{GoesOn}
use Rattle.jm_pattern.proofs.items.first_item.Given as goal

abbrev pub invariant-loop-after : goal.invariant-loop-after
invariant-loop-after l = GoesOn l.text l.rest

abbrev pub decreases-loop-after : goal.decreases-loop-after
decreases-loop-after l = length l.rest
