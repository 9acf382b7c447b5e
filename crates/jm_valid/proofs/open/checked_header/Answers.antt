use Rattle.jm_valid.proofs.FrontLaws.{reported, sections_index}
use Rattle.jm_valid.proofs.open.checked_header.Goals as goal

pub returns-in-Ok-clause-index : goal.returns-in-Ok-clause-index
returns-in-Ok-clause-index c =
    sections_index c.args.front.now c.args.length c.args.sections.now c.requires.holds c.requires.sections
    (rw c.in-Ok.is at c.requires.sound)

pub returns-in-Err-clause-damaged : goal.returns-in-Err-clause-damaged
returns-in-Err-clause-damaged c b file =
    reported c.args.front.now c.args.length c.args.sections.now b c.in-Err.error file c.requires.holds c.requires.sections
    (rw c.in-Err.is at c.requires.damaged)
