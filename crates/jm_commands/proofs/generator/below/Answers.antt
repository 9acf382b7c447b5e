use Rattle.std.proofs.Common.{◌++◌, ℕ, List, IsUtf8, sym, ap, ◌∙◌, subst}
use Rattle.std.proofs.lemmas.Str.{IsUtf8-append}
use Rattle.jm_commands.proofs.generator.below.Goals as goal

pub returns-clause-text : goal.returns-clause-text
returns-clause-text c =
    let path = c.from_vec.ensures ∙ c.in_ok-extend.ensures.ok ∙ ap (λ (front : List ℕ). front ++ c.args.rest.now) c.in_ok-path.ensures in
    subst (λ (text : List ℕ). IsUtf8 text) (sym path) (IsUtf8-append c.args.dir.now c.args.rest.now c.requires.dir c.requires.rest)
