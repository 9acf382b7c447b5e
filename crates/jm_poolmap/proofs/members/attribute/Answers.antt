use Rattle.std.proofs.Common.{arith}
use Rattle.std.proofs.lemmas.Grind.{common_steps}
use Rattle.jm_poolmap.specs.Attributes.{code}
use Rattle.jm_poolmap.proofs.members.attribute.Goals as goal

pub returns-in_err-content : goal.returns-in_err-content
returns-in_err-content c = grind (arith, c.in_err-content.ensures code)

pub returns-in_err-body_or_code : goal.returns-in_err-body_or_code
returns-in_err-body_or_code c = grind (arith, c.in_ok-content.ensures code)

pub returns-in_err-end : goal.returns-in_err-end
returns-in_err-end c = grind (arith, common_steps, c.in_ok-content.ensures code)

pub returns : goal.returns
returns c = grind (arith, c.in_ok-content.ensures code)
