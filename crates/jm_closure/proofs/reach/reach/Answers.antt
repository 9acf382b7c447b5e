use Rattle.std.proofs.lemmas.List.Elements.{Contains-push}
use Rattle.jm_closure.proofs.ReachLaws.{begin_round, ends_within, follow_next}
use Rattle.jm_closure.proofs.reach.reach.Goals as goal

pub loop-node-init : goal.loop-node-init
loop-node-init c =
    (rw c.new-work.ensures.items at c.in_ok-reach_each.ensures.reaches) c.args.graph.now c.args.rounds.now.items
    c.args.starts.now
    (begin_round c.args.graph.now c.args.rounds.now.items c.args.starts.now c.args.round c.requires.size c.requires.starts)

pub ends-requires : goal.ends-requires
ends-requires c =
    (c.loop-node.invariant.queued c.in-Some.node
    (rw c.in-Some.ensures.items (Contains-push c.pop.new.self.items c.in-Some.node))).0

pub reach_each-requires-in-Some-clause-within : goal.reach_each-requires-in-Some-clause-within
reach_each-requires-in-Some-clause-within c =
    rw (c.ends.ensures, c.loop-node.invariant.size) (ends_within c.args.graph.now c.in-Some.node c.requires.graph)

pub loop-node-preserved : goal.loop-node-preserved
loop-node-preserved c =
    (rw c.ends.ensures at c.in_ok-reach_each-2.ensures.reaches) c.args.graph.now c.args.rounds.now.items
    c.args.starts.now
    (follow_next c.args.graph.now c.args.rounds.now.items c.args.starts.now c.args.round
    c.loop-node.rounds.items c.pop.new.self.items c.in-Some.node c.requires.graph
    (rw c.in-Some.ensures.items at c.loop-node.invariant))
