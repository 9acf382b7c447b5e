use Rattle.std.proofs.Common.{◌∙◌, length, ap}
use Rattle.std.specs.Prelude.{unwrap_or}
use Rattle.jm_pattern.proofs.IndexLaws.{found_is}
use Rattle.jm_pattern.proofs.index.PatternIndex.first_literal.Goals as goal

pub returns : goal.returns
returns c =
    let patterns = c.self.inside.patterns.now in
    rw (← c.self.view_is) (c.unwrap_or.ensures ∙ ap (λ o. unwrap_or o (length patterns)) c.get-number.ensures
    ∙ found_is patterns c.self.inside.literals c.self.inside.others c.args.name.now c.self.invariant)
