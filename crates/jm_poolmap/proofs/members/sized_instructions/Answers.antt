use Rattle.std.proofs.Common.{arith}
use Rattle.jm_poolmap.proofs.members.sized_instructions.Goals as goal

pub returns-in_err-instructions : goal.returns-in_err-instructions
returns-in_err-instructions c texts = grind (arith, c.in_err-instructions.ensures texts)

pub returns-in_err-end : goal.returns-in_err-end
returns-in_err-end c texts = grind (arith, c.in_ok-instructions.ensures texts)

pub returns : goal.returns
returns c texts = grind (arith, c.in_ok-instructions.ensures texts)
