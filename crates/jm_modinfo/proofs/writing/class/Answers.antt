use Rattle.std.proofs.Common.{refl}
use Rattle.jm_modinfo.proofs.writing.class.Goals as goal

pub returns : goal.returns
returns c =
    rw (
      c.in_ok-pool.ensures,
      c.in_ok-push.ensures.ok,
      c.new-attributes.ensures,
      c.new.ensures,
      c.new-2.ensures,
      c.new-3.ensures,
      c.requires.body,
    ) refl
