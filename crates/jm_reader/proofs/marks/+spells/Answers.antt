use Rattle.std.proofs.Common.{arith}
use Rattle.jm_reader.proofs.MarkLaws.{not_spelled}
use Rattle.jm_reader.proofs.marks.+spells.Goals as goal

pub returns-in-None-clause-answer : goal.returns-in-None-clause-answer
returns-in-None-clause-answer g t c =
    let some = c.in-len1-up.len_at_least in
    ((λ h. cc), (λ is. absurd (not_spelled c.args.buf.now c.args.name.now c.args.texts.now _ (omega arith) c.in-None.ensures.other is)))
