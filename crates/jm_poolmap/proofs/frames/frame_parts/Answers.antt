use Rattle.std.proofs.Common.{arith}
use Rattle.std.proofs.lemmas.Grind.{common_steps}
use Rattle.jm_poolmap.proofs.frames.frame_parts.Goals as goal

pub returns-in_err-frame_part : goal.returns-in_err-frame_part
returns-in_err-frame_part c texts = grind (arith, common_steps, c.in_err-frame_part.ensures texts, c.loop-kind.invariant texts)

pub loop-kind-preserved : goal.loop-kind-preserved
loop-kind-preserved c texts = grind (arith, common_steps, c.in_ok-frame_part.ensures texts, c.loop-kind.invariant texts)
