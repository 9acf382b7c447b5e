use Rattle.std.proofs.Common.{◌∙◌, ap, sym}
use Rattle.std.specs.Option.{option_copied}
use Rattle.jm_form.proofs.StringsLaws.{place-iff}
use Rattle.jm_strings.proofs.TableLaws.{lookup-place}
use Rattle.jm_strings.proofs.strings.Strings.place.Goals as goal

pub returns-in-Some-clause-place : goal.returns-in-Some-clause-place
returns-in-Some-clause-place c = rw (← c.self.view_is) (sym (ap option_copied c.in-Some.is) ∙ c.get.ensures.value
    ∙ lookup-place (λ k. k.items) c.args.text.now c.self.inside.places.entries c.self.invariant.places)

pub returns-in-Some-clause-held : goal.returns-in-Some-clause-held
returns-in-Some-clause-held c = rw (← c.self.view_is) (place-iff c.args.text.now _ _ (sym (ap option_copied c.in-Some.is)
    ∙ c.get.ensures.value ∙ lookup-place (λ k. k.items) c.args.text.now c.self.inside.places.entries c.self.invariant.places))

pub returns-in-None-clause-place : goal.returns-in-None-clause-place
returns-in-None-clause-place c = rw (← c.self.view_is) (sym (ap option_copied c.in-None.is) ∙ c.get.ensures.value
    ∙ lookup-place (λ k. k.items) c.args.text.now c.self.inside.places.entries c.self.invariant.places)

pub returns-in-None-clause-held : goal.returns-in-None-clause-held
returns-in-None-clause-held c = rw (← c.self.view_is) (place-iff c.args.text.now _ _ (sym (ap option_copied c.in-None.is)
    ∙ c.get.ensures.value ∙ lookup-place (λ k. k.items) c.args.text.now c.self.inside.places.entries c.self.invariant.places))
