use Rattle.jm_closure.proofs.ReachLaws.{ends_within}
use Rattle.jm_closure.proofs.CycleLaws.{reversed_more}
use Rattle.jm_closure.proofs.cycle.reversed.Goals as goal

pub turn-requires-clause-ends : goal.turn-requires-clause-ends
turn-requires-clause-ends c =
    rw (c.ends.ensures, c.loop-node.invariant.size) (ends_within c.args.graph.now c.loop-node.node c.requires)

pub loop-node-preserved : goal.loop-node-preserved
loop-node-preserved c =
    let turned = reversed_more c.args.graph.now c.loop-node.back c.turn.new.back c.loop-node.node
    (rw c.ends.ensures at c.in_ok-turn.ensures) c.loop-node.invariant.size c.loop-node.invariant.within
    c.loop-node.invariant.turned in
    record { size = turned.0; within = turned.1; turned = turned.2 }
