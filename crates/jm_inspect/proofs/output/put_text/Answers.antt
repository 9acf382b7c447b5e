use Rattle.std.proofs.Common.{refl, sym, ◌∙◌}
use Rattle.jm_inspect.proofs.StepLaws.{no_memory}
use Rattle.jm_inspect.proofs.output.put_text.Goals as goal

pub returns-in-Ok : goal.returns-in-Ok
returns-in-Ok g c due is =
    let made = rw c.in-Ok.is at is in
    rw (sym (c.as_bytes.ensures.value ∙ made)) c.put_output.ensures

pub returns-in-Err : goal.returns-in-Err
returns-in-Err g c due is = no_memory _ _ _ refl
