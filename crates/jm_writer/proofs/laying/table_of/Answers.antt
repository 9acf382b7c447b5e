use Rattle.std.proofs.Common.{subst, Err}
use Rattle.std.specs.Prelude.{IfErr}
use Rattle.jm_bytes.specs.Results.{IfAnswered}
use Rattle.jm_bytes.specs.declared.faults.Or.{Or}
use Rattle.jm_redirect.specs.declared.building.NoTable.{NoTable}
use Rattle.jm_redirect.specs.declared.building.Table.{Table}
use Rattle.jm_redirect.specs.Built.{IsRefusal}
use Rattle.jm_writer.proofs.TableLaws.{none_built, table_built}
use Rattle.jm_writer.proofs.laying.table_of.Goals as goal

pub returns-in-Ok : goal.returns-in-Ok
returns-in-Ok c = table_built c.args.names.now c.in-Ok.table c.requires c.in-Ok.ensures.table

pub returns-in-Err-Fault : goal.returns-in-Err-Fault
returns-in-Err-Fault c =
    let names = c.args.names.now in
    let refused : IsRefusal names c.in-Err-Fault.field-0-0 =
    subst (λ (e : Or NoTable). IfAnswered {A = Table} (λ r. IfErr r (IsRefusal names)) (Err e)) c.in-Err-Fault.field-0-is
    c.in-Err-Fault.ensures.refused in
    (refused.0, none_built names refused.1)
