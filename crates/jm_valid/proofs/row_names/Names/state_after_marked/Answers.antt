use Rattle.std.proofs.Common.{◌≡◌, true, false, get_or, ap, sym, ◌∙◌}
use Rattle.std.proofs.lemmas.Bool.{eq-eqb, ne_eqb}
use Rattle.jm_form.specs.Texts.{text_at}
use Rattle.jm_names.specs.Hash.{state_after}
use Rattle.jm_names.specs.Names.{is_empty}
use Rattle.jm_valid.specs.Sections.{strings_in}
use Rattle.jm_valid.proofs.NameLaws.{empty_at, in_front, marked_none, marked_some}
use Rattle.jm_valid.proofs.row_names.Names.state_after_marked.Goals as goal

pub bounds-self-place : goal.bounds-self-place
bounds-self-place c = (in_front c.args.self.now.sections c.args.place c.requires).below

pub returns-then-self-place-eq0 : goal.returns-then-self-place-eq0
returns-then-self-place-eq0 c =
    let s = c.args.self.now.sections in
    let front = in_front s c.args.place c.requires in
    let text = text_at (strings_in s) c.args.place in
    let none : is_empty text ≡ true = sym (empty_at s.texts.now c.args.place front.below ∙ ap is_empty front.same)
    ∙ eq-eqb (get_or s.texts.now c.args.place 0) 0 c.if-self-place-eq0.true in
    marked_none c.args.before.now text c.args.behind.now c.args.state none

pub returns : goal.returns
returns c =
    let s = c.args.self.now.sections in
    let front = in_front s c.args.place c.requires in
    let text = text_at (strings_in s) c.args.place in
    let some : is_empty text ≡ false = sym (empty_at s.texts.now c.args.place front.below ∙ ap is_empty front.same)
    ∙ ne_eqb (get_or s.texts.now c.args.place 0) 0 c.if-self-place-eq0.false in
    c.state_after-2.ensures ∙ ap (λ n. state_after n c.args.behind.now) (c.state_after_text-state.ensures
    ∙ ap (λ n. state_after n text) c.state_after.ensures)
    ∙ marked_some c.args.before.now text c.args.behind.now c.args.state some
