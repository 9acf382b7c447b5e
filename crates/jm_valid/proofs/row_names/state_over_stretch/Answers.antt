use Rattle.std.proofs.Common.{◌≡◌, ◌<◌, ◌==◌, ◌++◌, List, ℕ, drop, take, sym, ap, ◌∙◌}
use Rattle.std.proofs.lemmas.List.Elements.{All-drop, All-from_get_or, All-take}
use Rattle.std.specs.List.{position_or_len}
use Rattle.jm_form.specs.Texts.{text_at}
use Rattle.jm_names.proofs.HashLaws.{state_after-append}
use Rattle.jm_names.specs.Hash.{state_after}
use Rattle.jm_valid.proofs.PassageLaws.{stretch_whole, text_on, text_whole}
use Rattle.jm_valid.proofs.row_names.state_over_stretch.Goals as goal

pub returns-in-Some : goal.returns-in-Some
returns-in-Some c =
    let bytes = c.args.bytes.now in
    let stretch = c.split_at.result.0.now in
    let rest = drop c.args.size bytes in
    let front = c.split_at.ensures.front ∙ ap (λ n. take n bytes) c.min.ensures in
    let whole : stretch ++ rest ≡ bytes = ap (λ (l : List ℕ). l ++ rest) front ∙ stretch_whole c.args.size bytes in
    c.state_after.ensures ∙ ap (state_after c.args.state) (c.in-Some.ensures.text
    ∙ sym (text_whole stretch rest (sym c.in-Some.ensures.ends)) ∙ ap (λ (l : List ℕ). text_at l 0) whole)

pub returns-in-None : goal.returns-in-None
returns-in-None c =
    let bytes = c.args.bytes.now in
    let stretch = c.split_at.result.0.now in
    let rest = drop c.args.size bytes in
    let text = text_at rest 0 in
    let front = c.split_at.ensures.front ∙ ap (λ n. take n bytes) c.min.ensures in
    let whole : stretch ++ rest ≡ bytes = ap (λ (l : List ℕ). l ++ rest) front ∙ stretch_whole c.args.size bytes in
    let all = All-from_get_or (λ b. b < 256) bytes 0 (λ k below. (c.type_inv.bytes k).fits) in
    let fits = All-take (λ b. b < 256) (position_or_len (λ x. x == 0) rest) rest (All-drop (λ b. b < 256) c.args.size bytes all) in
    c.passed.ensures text fits c.requires ∙ ap (λ s. state_after s text) c.state_after-in-None.ensures
    ∙ sym (state_after-append c.args.state stretch text)
    ∙ ap (state_after c.args.state) (sym (text_on stretch rest (sym c.in-None.ensures.ends)) ∙ ap (λ (l : List ℕ). text_at l 0) whole)
