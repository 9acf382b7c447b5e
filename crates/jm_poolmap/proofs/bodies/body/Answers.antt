use Rattle.std.proofs.Common.{arith}
use Rattle.jm_poolmap.proofs.bodies.body.Goals as goal

pub returns-in-Items : goal.returns-in-Items
returns-in-Items c texts = grind (arith, c.items.ensures texts)

pub returns-in_ok-count-in-ShortRows : goal.returns-in_ok-count-in-ShortRows
returns-in_ok-count-in-ShortRows c texts = grind (arith, c.rows.ensures texts)

pub returns-in_ok-count-in-Rows : goal.returns-in_ok-count-in-Rows
returns-in_ok-count-in-Rows c texts = grind (arith, c.rows-in-Rows.ensures texts)

pub returns-in_ok-count-in-Methods : goal.returns-in_ok-count-in-Methods
returns-in_ok-count-in-Methods c texts = grind (arith, c.methods.ensures texts)

pub returns-in_ok-count-in-Frames : goal.returns-in_ok-count-in-Frames
returns-in_ok-count-in-Frames c texts = grind (arith, c.frames.ensures texts)
