use Rattle.std.proofs.Common.{sym, ◌∙◌}
use Rattle.std.proofs.lemmas.List.{take_all}
use Rattle.std.proofs.lemmas.Bool.{false≢true}
use Rattle.jm_closure.specs.Graphs.{IsMarked, OnCycle}
use Rattle.jm_closure.proofs.CycleLaws.{first_here, none_more}
use Rattle.jm_closure.proofs.cycle.first_on_cycle.Goals as goal
use Rattle.jm_closure.proofs.cycle.first_on_cycle.Goals.{else-marked-node-via-then-marked-node+in_ok-is_on_cycle+else-branch}
use Rattle.jm_closure.proofs.cycle.first_on_cycle.Goals.{else-marked-node-via-else-marked-node}

pub returns-then-branch : goal.returns-then-branch
returns-then-branch c =
    first_here (λ i. IsMarked c.args.marked.now i × OnCycle c.args.graph.now i) c.args.order.now c.loop-node.node-index
    c.loop-node-test.true (c.if-marked-node.true, c.in_ok-is_on_cycle.ensures.0 c.if-branch.true) c.loop-node.invariant

pub loop-node-preserved : goal.loop-node-preserved
loop-node-preserved c =
    none_more (λ i. IsMarked c.args.marked.now i × OnCycle c.args.graph.now i) c.args.order.now c.loop-node.node-index
    c.loop-node-test.true
    (elim c.else-marked-node.branch [
      | else-marked-node-via-then-marked-node+in_ok-is_on_cycle+else-branch w ↦
          (λ is. false≢true (sym w.if-branch.false ∙ w.in_ok-is_on_cycle.ensures.1 is.1))
      | else-marked-node-via-else-marked-node w ↦ (λ is. false≢true (sym w.if-marked-node.false ∙ is.0))
    ])
    c.loop-node.invariant

pub returns : goal.returns
returns c =
    rw (take_all c.loop-node.node-index c.args.order.now c.loop-node-test.false) at c.loop-node.invariant
