use Rattle.std.proofs.Common.{false}
use Rattle.jm_strip.specs.Strip.{stays}
use Rattle.jm_strip.proofs.Opaques.{class-attributes, gives_same}
use Rattle.jm_strip.proofs.stripping.strip_attributes.Goals as goal

pub returns : goal.returns
returns c = gives_same _ _ _ c.keep_attributes.result c.keep_attributes.new.cursor (class-attributes c.args.pool.now
    (stays false c.args.pool.now) c.args.text.now.items c.args.cursor.now) c.keep_attributes.ensures
