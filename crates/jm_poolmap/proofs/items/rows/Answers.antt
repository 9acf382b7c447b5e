use Rattle.std.proofs.Common.{arith}
use Rattle.jm_poolmap.proofs.Loops.{times_more}
use Rattle.jm_poolmap.proofs.items.rows.Goals as goal

pub returns-in_err-items : goal.returns-in_err-items
returns-in_err-items c texts = grind (arith, times_more, c.in_err-items.ensures texts, c.loop-k.invariant texts)

pub loop-k-preserved : goal.loop-k-preserved
loop-k-preserved c texts = grind (arith, times_more, c.in_ok-items.ensures texts, c.loop-k.invariant texts)
