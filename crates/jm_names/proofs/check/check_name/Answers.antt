use Rattle.std.proofs.Common.{sym}
use Rattle.jm_names.proofs.ComputedFaultLaws.{HasFault-computed, IsSound-computed}
use Rattle.jm_names.proofs.check.check_name.Goals as goal

pub returns-in-Some-clause-err : goal.returns-in-Some-clause-err
returns-in-Some-clause-err c = HasFault-computed c.args.name.now c.in-Some.fault (sym c.in-Some.ensures)

pub returns-in-None-clause-ok : goal.returns-in-None-clause-ok
returns-in-None-clause-ok c = IsSound-computed c.args.name.now (sym c.in-None.ensures)
