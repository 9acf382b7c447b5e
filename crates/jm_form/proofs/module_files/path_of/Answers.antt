use Rattle.std.proofs.Common.{sym}
use Rattle.jm_names.specs.Names.{is_slash}
use Rattle.jm_form.proofs.ClassPackageLaws.{after_none}
use Rattle.jm_form.proofs.module_files.path_of.Goals as goal

pub returns-in-None : goal.returns-in-None
returns-in-None c = rw c.in-Some.ensures.cases.0 (sym (after_none is_slash c.in-Some.rest.now c.in-None.ensures.none))
