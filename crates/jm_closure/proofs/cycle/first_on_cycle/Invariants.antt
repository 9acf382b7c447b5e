use Rattle.std.proofs.Common.{take, All}
use Rattle.jm_closure.specs.Graphs.{IsMarked, OnCycle}
use Rattle.jm_closure.proofs.cycle.first_on_cycle.Given as goal

abbrev pub invariant-loop-node : goal.invariant-loop-node
invariant-loop-node l =
    All (λ i. ¬ (IsMarked l.marked i × OnCycle l.graph i)) (take l.node-index l.order)
