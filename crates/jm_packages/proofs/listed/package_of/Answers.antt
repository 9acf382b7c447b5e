use Rattle.std.proofs.Common.{sym}
use Rattle.jm_bytes.proofs.Cuts.{before_last_none}
use Rattle.jm_names.specs.Names.{is_slash}
use Rattle.jm_packages.proofs.listed.package_of.Goals as goal

pub returns-in-None : goal.returns-in-None
returns-in-None c = sym (before_last_none is_slash c.args.class_name.now 0 c.in-None.ensures.none)
