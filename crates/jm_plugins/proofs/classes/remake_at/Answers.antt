use Rattle.std.proofs.Common.{ℕ, List, refl, sym, subst, ◌∙◌}
use Rattle.jm_bytes.proofs.Choice.{same_some}
use Rattle.jm_plugins.specs.Steps.{text_of, ReadsByRule, RemadeAs}
use Rattle.jm_plugins.proofs.classes.remake_at.Goals as goal

pub returns : goal.returns
returns c =
    let own : List ℕ × List ℕ = (c.at.result.0.now, c.at.result.1.now) in (
      refl,
      λ pair there. subst (λ p. ReadsByRule c.args.release p.1) (same_some own pair (sym c.at.ensures ∙ there)) c.remake.ensures.read,
      λ pair there. subst (λ p. RemadeAs c.args.release (text_of c.args.way p.0) p.1 c.remake.result) (same_some own pair (sym c.at.ensures
          ∙ there)) c.remake.ensures.made,
    )
