use Rattle.std.proofs.Common.{arith}
use Rattle.jm_poolmap.proofs.frames.frame.Goals as goal

pub returns : goal.returns
returns c texts = grind (arith, c.frame_parts.ensures texts)
