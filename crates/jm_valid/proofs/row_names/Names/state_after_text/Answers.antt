use Rattle.std.proofs.Common.{◌≡◌, ℕ, List, ◌+◌, ◌-◌, ◌*◌, ◌/◌, ◌%◌, ◌==◌, ◌∙◌, ap, sym, drop, drop-drop, arith}
use Rattle.std.specs.List.{before_first}
use Rattle.jm_form.specs.Texts.{text_at}
use Rattle.jm_names.specs.Hash.{state_after}
use Rattle.jm_valid.specs.Passages.{passage_of}
use Rattle.jm_valid.proofs.NameLaws.{in_front}
use Rattle.jm_valid.proofs.row_names.Names.state_after_text.Goals as goal

pub split_at-requires : goal.split_at-requires
split_at-requires c = let below = (in_front c.args.self.now.sections c.args.place c.requires).below in omega (arith, below)

pub state_over_stretch-requires : goal.state_over_stretch-requires
state_over_stretch-requires c =
    let texts = c.args.self.now.sections.texts.now in
    let place = c.args.place in
    let left = 512 - place % 512 in
    let next : (place / 512 + 1) * 512 ≡ place + left = omega arith in
    let rest = ap (λ n. drop n texts) next ∙ sym (drop-drop left place texts) ∙ ap (drop left) (sym c.split_at.ensures.back) in
    c.in-Some.ensures ∙ ap (λ (l : List ℕ). passage_of (before_first (λ x. x == 0) l)) rest

pub returns-in-Some : goal.returns-in-Some
returns-in-Some c =
    c.state_over_stretch.ensures ∙ ap (λ (l : List ℕ). state_after c.args.state (text_at l 0)) c.split_at.ensures.back
    ∙ ap (state_after c.args.state) (in_front c.args.self.now.sections c.args.place c.requires).same

pub returns-in-None : goal.returns-in-None
returns-in-None c =
    c.state_after.ensures ∙ ap (state_after c.args.state) c.text_in.ensures
    ∙ ap (λ (l : List ℕ). state_after c.args.state (text_at l 0)) c.split_at.ensures.back
    ∙ ap (state_after c.args.state) (in_front c.args.self.now.sections c.args.place c.requires).same
