use Rattle.std.proofs.Common.{arith}
use Rattle.jm_poolmap.proofs.instructions.operands.Goals as goal

pub returns-in-Items : goal.returns-in-Items
returns-in-Items c texts = grind (arith, c.items.ensures texts)

pub returns-in_ok-list-in-Wide : goal.returns-in_ok-list-in-Wide
returns-in_ok-list-in-Wide c texts = grind (arith, c.items-in-Wide.ensures texts)
