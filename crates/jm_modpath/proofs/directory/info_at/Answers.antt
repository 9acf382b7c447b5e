use Rattle.std.proofs.Common.{sym}
use Rattle.jm_modinfo.proofs.DescriptionLaws.{info_for-info_in}
use Rattle.jm_modpath.proofs.directory.info_at.Goals as goal

pub returns-in-Ok-clause-said : goal.returns-in-Ok-clause-said
returns-in-Ok-clause-said c =
    info_for-info_in c.args.release c.args.bytes c.in-Ok.descriptor (sym (rw c.as_slice.ensures at c.in-Ok.ensures.info))
