use Rattle.std.proofs.Common.{◌≡◌, take}
use Rattle.jm_bind.proofs.nodes.copy_of.Given as goal

abbrev pub invariant-loop-node : goal.invariant-loop-node
invariant-loop-node l = l.copy ≡ take l.node l.graph
