use Rattle.std.proofs.Common.{arith}
use Rattle.jm_valid.proofs.PartLaws.{parts_more}
use Rattle.jm_valid.proofs.entries.parts_of.Goals as goal

pub loop-first-preserved : goal.loop-first-preserved
loop-first-preserved c =
    rw c.in_ok-push.ensures.ok (parts_more c.args.length c.loop-first.firsts c.loop-first.first c.saturating_add-first.result
    c.loop-first-test.true (omega arith) c.loop-first.invariant)
