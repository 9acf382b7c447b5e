use Rattle.std.proofs.Common.{get_or}
use Rattle.std.proofs.lemmas.List.{take_more}
use Rattle.jm_closure.proofs.CycleLaws.{turns_more}
use Rattle.jm_closure.proofs.cycle.turn.Goals as goal

pub loop-end-preserved : goal.loop-end-preserved
loop-end-preserved c =
    rw (c.in_ok-add.ensures.ok, take_more c.args.ends.now c.loop-end.end-index 0 c.loop-end-test.true)
    (turns_more c.args.back.now c.loop-end.back c.args.node (get_or c.args.ends.now c.loop-end.end-index 0) _
    (rw c.loop-end.invariant.size (c.requires.ends c.loop-end.end-index 0 c.loop-end-test.true))
    (rw c.loop-end.invariant.size c.requires.node)
    c.loop-end.invariant)
