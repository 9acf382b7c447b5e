use Rattle.std.proofs.Common.{arith}
use Rattle.jm_poolmap.proofs.Loops.{times_more}
use Rattle.jm_poolmap.proofs.frames.frame_part.Goals as goal

pub returns-in_err-one_type-in-Types : goal.returns-in_err-one_type-in-Types
returns-in_err-one_type-in-Types c texts =
    grind (arith, times_more, c.in_err-one_type-in-Types.ensures texts, c.loop-k.invariant texts)

pub loop-k-preserved : goal.loop-k-preserved
loop-k-preserved c texts = grind (arith, times_more, c.in_ok-one_type-in-Types.ensures texts, c.loop-k.invariant texts)

pub returns-after-loop-k : goal.returns-after-loop-k
returns-after-loop-k c texts = grind (arith, c.loop-k.invariant texts)
