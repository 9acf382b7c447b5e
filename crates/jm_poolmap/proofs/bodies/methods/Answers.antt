use Rattle.std.proofs.Common.{arith}
use Rattle.jm_poolmap.proofs.Loops.{times_more}
use Rattle.jm_poolmap.proofs.bodies.methods.Goals as goal

pub returns-in_err-site : goal.returns-in_err-site
returns-in_err-site c texts = grind (arith, times_more, c.in_err-site.ensures texts, c.loop-k.invariant texts)

pub returns-in_err-arguments : goal.returns-in_err-arguments
returns-in_err-arguments c texts = grind (arith, times_more, c.in_ok-site.ensures texts, c.loop-k.invariant texts)

pub returns-in_err-rows : goal.returns-in_err-rows
returns-in_err-rows c texts =
    grind (arith, times_more, c.in_ok-site.ensures texts, c.in_err-rows.ensures texts, c.loop-k.invariant texts)

pub loop-k-preserved : goal.loop-k-preserved
loop-k-preserved c texts =
    grind (arith, times_more, c.in_ok-site.ensures texts, c.in_ok-rows.ensures texts, c.loop-k.invariant texts)
