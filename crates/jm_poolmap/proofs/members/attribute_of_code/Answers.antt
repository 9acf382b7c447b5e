use Rattle.std.proofs.Common.{arith}
use Rattle.jm_class.specs.Classes.{utf8_at}
use Rattle.jm_class.specs.Views.{pool_of}
use Rattle.jm_poolmap.specs.Forms.{Never}
use Rattle.jm_poolmap.proofs.members.attribute_of_code.Goals as goal

pub returns-in_err-content : goal.returns-in_err-content
returns-in_err-content c = grind (arith, c.in_err-content.ensures Never)

pub returns-in_err-body : goal.returns-in_err-body
returns-in_err-body c = grind (
  arith,
  c.in_ok-content.ensures Never,
  c.in_err-body.ensures (utf8_at (pool_of c.args.class.now.pool)),
)

pub returns : goal.returns
returns c = grind (arith, c.in_ok-content.ensures Never, c.in_ok-body.ensures (utf8_at (pool_of c.args.class.now.pool)))
