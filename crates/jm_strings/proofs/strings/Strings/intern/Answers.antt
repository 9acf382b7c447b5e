use Rattle.std.proofs.Common.{◌∙◌, Some, ap, sym}
use Rattle.jm_form.specs.Strings.{place_of}
use Rattle.jm_form.proofs.StringsLaws.{place_of-push}
use Rattle.jm_strings.proofs.strings.Strings.intern.Goals as goal

pub returns-clause-place : goal.returns-clause-place
returns-clause-place c = ap (place_of c.args.text.now) c.in_ok-add.ensures.texts ∙ place_of-push c.args.text.now c.args.self.now
    (sym c.place.ensures.place ∙ c.in_default.is) ∙ ap Some (sym c.in_ok-add.ensures.place)
