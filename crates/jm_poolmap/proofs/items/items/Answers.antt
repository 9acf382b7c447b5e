use Rattle.std.proofs.Common.{arith}
use Rattle.std.proofs.lemmas.Grind.{common_steps}
use Rattle.jm_poolmap.proofs.items.items.Goals as goal

pub returns-in_err-step : goal.returns-in_err-step
returns-in_err-step c texts = grind (arith, common_steps, c.in_err-step.ensures texts, c.loop-item.invariant texts)

pub loop-item-preserved : goal.loop-item-preserved
loop-item-preserved c texts = grind (arith, common_steps, c.in_ok-step.ensures texts, c.loop-item.invariant texts)
