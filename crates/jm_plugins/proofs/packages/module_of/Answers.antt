use Rattle.std.proofs.Common.{sym}
use Rattle.jm_plugins.proofs.PackagingLaws.{before_none}
use Rattle.jm_plugins.proofs.packages.module_of.Goals as goal

pub returns-in-None : goal.returns-in-None
returns-in-None c = rw c.in-Some.ensures.cases.0 (sym (before_none c.in-Some.rest.now c.in-None.ensures.none))
