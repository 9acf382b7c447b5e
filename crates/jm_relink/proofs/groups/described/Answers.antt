use Rattle.std.proofs.Common.{None, Some}
use Rattle.jm_relink.proofs.GroupingLaws.{described_if}
use Rattle.jm_relink.proofs.groups.described.Goals as goal

pub returns-in_err-info-clause-group : goal.returns-in_err-info-clause-group
returns-in_err-info-clause-group c b =
    rw c.from_residual-in_err-info.ensures
    (described_if b c.args.group c.in_ok-module.field-0 None c.requires c.in_ok-module.was c.in_err-info.was)

pub returns-clause-group : goal.returns-clause-group
returns-clause-group c b =
    described_if b c.args.group c.in_ok-module.field-0 (Some c.in_ok-info.info) c.requires c.in_ok-module.was c.in_ok-info.was
