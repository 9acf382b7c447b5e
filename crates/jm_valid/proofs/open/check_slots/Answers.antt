use Rattle.std.proofs.Common.{arith, sym}
use Rattle.jm_valid.proofs.BodyLaws.{slots_decide}
use Rattle.jm_valid.proofs.open.check_slots.Goals as goal

pub returns-in-Some-clause-damaged : goal.returns-in-Some-clause-damaged
returns-in-Some-clause-damaged c =
    slots_decide c.args.sections.now (c.in-Some.field-0-0, c.in-Some.damage) (rw c.in-Some.is at c.requires)

pub returns-in-None-clause-sound : goal.returns-in-None-clause-sound
returns-in-None-clause-sound c = λ i below. let first = rw c.in-None.is at c.requires in sym (first.none i (omega arith) below)
