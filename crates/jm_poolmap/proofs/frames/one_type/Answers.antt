use Rattle.std.proofs.Common.{arith}
use Rattle.jm_poolmap.proofs.frames.one_type.Goals as goal

pub returns : goal.returns
returns c texts = grind (arith, c.items.ensures texts)
