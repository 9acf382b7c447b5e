use Rattle.std.proofs.Common.{rules, ◌≡◌, ◌∙◌, ◌≤◌, ◌++◌, ◌∷◌, [], ap, sym, length, subst}
use Rattle.jm_form.specs.Strings.{place_of, section_of}
use Rattle.jm_strings.specs.Limit.{limit}
use Rattle.jm_strings.specs.Table.{texts_of}
use Rattle.jm_strings.proofs.TableLaws.{lookup-place, agrees-push, not_refused}
use Rattle.jm_strings.proofs.strings.Strings.add.Goals as goal

pub insert-requires : goal.insert-requires
insert-requires c =
    let es = c.self.inside.places.entries in
    lookup-place (λ k. k.items) c.in_ok-copy.copy.items es c.self.invariant.places ∙ ap (λ t. place_of t (texts_of es))
    c.in_ok-copy.ensures ∙ ap (place_of c.args.text.now) c.self.view_is ∙ c.requires.new

pub invariant_of-self-else-is_err : goal.invariant_of-self-else-is_err
invariant_of-self-else-is_err c =
    let es = c.self.inside.places.entries in
    let section = c.self.inside.section.items in
    let stored = not_refused c.insert.result c.insert.ensures.ok c.if-is_err.ensures.value in
    let room = subst (λ l. length (section_of (l ++ c.args.text.now ∷ [])) ≤ limit) (sym c.self.view_is) c.requires.room in
    let at : c.len-place.result ≡ length section = search rules in
    rw (c.in_ok-append.ensures.ok, stored) (agrees-push section es c.args.text.now c.in_ok-copy.copy _ c.self.invariant
    c.in_ok-copy.ensures at c.requires.zero_free room)
