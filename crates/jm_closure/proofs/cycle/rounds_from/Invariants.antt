use Rattle.jm_closure.specs.Graphs.{RoundsSoFar}
use Rattle.jm_closure.proofs.cycle.rounds_from.Given as goal

abbrev pub invariant-loop-earlier : goal.invariant-loop-earlier
invariant-loop-earlier l = RoundsSoFar l.graph l.earlier l.rounds.items
