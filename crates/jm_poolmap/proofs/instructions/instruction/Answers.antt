use Rattle.std.proofs.Common.{arith}
use Rattle.jm_poolmap.proofs.instructions.instruction.Goals as goal

pub returns : goal.returns
returns c texts = grind (arith, c.operands.ensures texts)
