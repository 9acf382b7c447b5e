use Rattle.std.proofs.Common.{◌<◌, ◌==◌, sym, ap, ◌∙◌, map}
use Rattle.std.proofs.lemmas.List.Elements.{All-take}
use Rattle.std.specs.List.{position_or_len}
use Rattle.jm_names.specs.Hash.{state_after}
use Rattle.jm_form.specs.Texts.{text_at}
use Rattle.jm_valid.proofs.PassageLaws.{passed_both, text_on, text_whole}
use Rattle.jm_valid.proofs.passages.pass_stretch.Goals as goal

pub returns-in-Some : goal.returns-in-Some
returns-in-Some c rest bytes is =
    let stretch = c.args.stretch.now in
    c.pass_text.ensures ∙ ap (λ t. map (λ s. state_after s t) c.args.states.now) (c.in-Some.ensures.text
    ∙ sym (text_whole stretch rest (sym c.in-Some.ensures.ends)))

pub returns-in-None : goal.returns-in-None
returns-in-None c rest bytes is =
    let stretch = c.args.stretch.now in
    let text = text_at rest 0 in
    passed_both c.args.states.now c.pass_text-in-None.new.states c.pass_rest.new.states stretch text c.pass_text-in-None.ensures
    (c.pass_rest.ensures text (All-take (λ b. b < 256) (position_or_len (λ x. x == 0) rest) rest bytes) is)
    ∙ ap (λ t. map (λ s. state_after s t) c.args.states.now) (sym (text_on stretch rest (sym c.in-None.ensures.ends)))
