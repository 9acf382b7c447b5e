use Rattle.std.proofs.Common.{arith}
use Rattle.jm_poolmap.proofs.Loops.{times_more}
use Rattle.jm_poolmap.proofs.frames.frames.Goals as goal

pub returns-in_err-frame : goal.returns-in_err-frame
returns-in_err-frame c texts = grind (arith, times_more, c.in_err-frame.ensures texts, c.loop-k.invariant texts)

pub loop-k-preserved : goal.loop-k-preserved
loop-k-preserved c texts = grind (arith, times_more, c.in_ok-frame.ensures texts, c.loop-k.invariant texts)
