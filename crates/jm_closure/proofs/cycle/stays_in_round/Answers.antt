use Rattle.std.proofs.Common.{arith}
use Rattle.std.proofs.lemmas.List.{take_all}
use Rattle.jm_closure.proofs.ReachLaws.{ends_within}
use Rattle.jm_closure.proofs.CycleLaws.{leaves_more}
use Rattle.jm_closure.proofs.cycle.stays_in_round.Goals as goal

pub loop-end-init : goal.loop-end-init
loop-end-init c = record {
  items = c.ends-end-items.ensures;
  within = rw (c.ends-end-items.ensures, c.requires.rounds) (ends_within c.args.graph.now c.args.node c.requires.graph);
  none = λ j there. absurd (omega (arith, there.1));
}

pub loop-end-preserved : goal.loop-end-preserved
loop-end-preserved c = record {
  items = c.loop-end.invariant.items;
  within = c.loop-end.invariant.within;
  none = leaves_more c.args.rounds.now c.args.node c.ends-end-items.result.now c.loop-end.end-index c.loop-end-test.true
      c.if-rounds-end.false c.loop-end.invariant.none;
}

pub returns : goal.returns
returns c = λ j edge.
    let all = take_all c.loop-end.end-index c.ends-end-items.result.now c.loop-end-test.false in
    (rw (all, c.ends-end-items.ensures) at c.loop-end.invariant.none) j edge
