use Rattle.std.proofs.Common.{◌+◌, [], length}
use Rattle.jm_closure.specs.Graphs.{unreached, InRound}
use Rattle.jm_closure.proofs.reach.reach.Given as goal

abbrev pub invariant-loop-node : goal.invariant-loop-node
invariant-loop-node l = InRound l.graph l.fn.rounds.items l.starts l.round l.rounds.items l.work.items []

abbrev pub decreases-loop-node : goal.decreases-loop-node
decreases-loop-node l = unreached l.rounds.items + length l.work.items
