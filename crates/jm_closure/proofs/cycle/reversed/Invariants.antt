use Rattle.std.proofs.Common.{◌≡◌, ◌<◌, ℕ, length}
use Rattle.jm_closure.specs.Graphs.{EndsWithin, HasEdge}
use Rattle.jm_closure.proofs.cycle.reversed.Given as goal

abbrev pub invariant-loop-node : goal.invariant-loop-node
invariant-loop-node l = record {
  size : length l.back ≡ length l.graph;
  within : EndsWithin l.back;
  turned : (i j : ℕ) → i < l.node → HasEdge l.graph i j → HasEdge l.back j i;
}
