use Rattle.std.proofs.Common.{arith}
use Rattle.jm_poolmap.proofs.Loops.{times_more}
use Rattle.jm_poolmap.proofs.members.interfaces.Goals as goal

pub returns-in_err-site : goal.returns-in_err-site
returns-in_err-site c texts = grind (arith, times_more, c.in_err-site.ensures texts, c.loop-k.invariant texts)

pub loop-k-preserved : goal.loop-k-preserved
loop-k-preserved c texts = grind (arith, times_more, c.in_ok-site.ensures texts, c.loop-k.invariant texts)

pub returns : goal.returns
returns c texts = grind (arith, c.loop-k.invariant texts)
