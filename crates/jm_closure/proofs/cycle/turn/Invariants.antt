use Rattle.std.proofs.Common.{take}
use Rattle.jm_closure.specs.Cycles.{Turns}
use Rattle.jm_closure.proofs.cycle.turn.Given as goal

abbrev pub invariant-loop-end : goal.invariant-loop-end
invariant-loop-end l = Turns l.fn.back l.back l.node (take l.end-index l.ends)
