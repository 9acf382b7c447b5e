use Rattle.std.proofs.Common.{ℕ, take, sym, ap}
use Rattle.jm_form.proofs.TextLaws.{ended_length-last, ended_length-none}
use Rattle.jm_valid.proofs.sections.ended_texts.Goals as goal

pub returns-in-Some : goal.returns-in-Some
returns-in-Some c =
    let found = c.in-Some.ensures in
    let size = ended_length-last c.args.strings.now c.in-Some.last found.0.high found.1 (λ k from to is. found.0.after k from to is) in
    sym (ap (λ (n : ℕ). take n c.args.strings.now) size)

pub returns-in-None : goal.returns-in-None
returns-in-None c = sym (ap (λ (n : ℕ). take n c.args.strings.now) (ended_length-none c.args.strings.now c.in-None.ensures))
