use Rattle.std.proofs.Common.{◌∙◌, ap, sym}
use Rattle.std.specs.Option.{option_copied}
use Rattle.jm_pattern.proofs.NumberLaws.{lookup_numbers}
use Rattle.jm_pattern.proofs.numbers.Numbers.get.Goals as goal

pub returns-in-Some : goal.returns-in-Some
returns-in-Some c = rw (← c.self.view_is) (sym (ap option_copied c.in-Some.is) ∙ c.get.ensures.value
    ∙ lookup_numbers (λ k. k.items) c.args.text.now c.self.inside.numbers.entries)

pub returns-in-None : goal.returns-in-None
returns-in-None c = rw (← c.self.view_is) (sym (ap option_copied c.in-None.is) ∙ c.get.ensures.value
    ∙ lookup_numbers (λ k. k.items) c.args.text.now c.self.inside.numbers.entries)
