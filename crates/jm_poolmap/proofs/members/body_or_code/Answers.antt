use Rattle.std.proofs.Common.{arith}
use Rattle.jm_class.specs.Classes.{utf8_at}
use Rattle.jm_class.specs.Views.{pool_of}
use Rattle.jm_poolmap.proofs.members.body_or_code.Goals as goal

pub returns-in-Any : goal.returns-in-Any
returns-in-Any c = grind (arith, c.body.ensures (utf8_at (pool_of c.args.class.now.pool)))
