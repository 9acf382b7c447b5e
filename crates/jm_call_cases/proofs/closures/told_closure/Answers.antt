use Rattle.jm_call_cases.proofs.closures.told_closure.Goals as goal

pub put_answers-requires : goal.put_answers-requires
put_answers-requires c = c.in-Ok-true.ensures.0 c.in-Ok-true.field-0-test
