use Rattle.std.proofs.Common.{sym}
use Rattle.jm_form.proofs.ClassPackageLaws.{after_none}
use Rattle.jm_names.specs.Names.{is_slash}
use Rattle.jm_filed.proofs.FileOrderLaws.{before_none}
use Rattle.jm_filed.proofs.file_order.module_and_path.Goals as goal

pub returns-in-None-clause-module : goal.returns-in-None-clause-module
returns-in-None-clause-module c = rw c.in-Some.ensures.cases.0 (sym (before_none is_slash c.in-Some.rest.now c.in-None.ensures.none))

pub returns-in-None-clause-path : goal.returns-in-None-clause-path
returns-in-None-clause-path c = rw c.in-Some.ensures.cases.0 (sym (after_none is_slash c.in-Some.rest.now c.in-None.ensures.none))
