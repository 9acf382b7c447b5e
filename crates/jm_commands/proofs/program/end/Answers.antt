use Rattle.std.proofs.Common.{◌∙◌}
use Rattle.jm_commands.proofs.RunLaws.{reported}
use Rattle.jm_commands.proofs.program.end.Goals as goal

pub returns-in-Ok-put : goal.returns-in-Ok-put
returns-in-Ok-put g c =
    let line = c.as_slice.ensures.value ∙ c.in-Ok-line.ensures in
    rw (c.in-Err-Complaint.is, c.in-Err-Complaint.field-0-is) (reported _ _ _ _ c.status.ensures (rw line at c.in-Ok-put.ensures.ok))
