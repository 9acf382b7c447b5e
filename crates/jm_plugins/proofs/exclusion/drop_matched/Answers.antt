use Rattle.std.proofs.Common.{◌∙◌, ap, length, not, nat_lt}
use Rattle.std.proofs.lemmas.Result.{IfOk-weaker}
use Rattle.std.specs.List.{filter, position_or_len}
use Rattle.jm_pattern.specs.ComputedMatching.{matches}
use Rattle.jm_plugins.proofs.RankLaws.{excluded_is}
use Rattle.jm_plugins.proofs.exclusion.drop_matched.Goals as goal

pub returns : goal.returns
returns g c =
    let patterns = c.args.patterns.now in
    let left = ap (λ ps. filter (λ pair. not (nat_lt (position_or_len (λ p. matches p pair.0) ps) (length patterns))) c.args.pool)
    c.in_ok-index.ensures ∙ excluded_is patterns c.args.pool in
    IfOk-weaker c.drop_named.result _ _ (λ made is. is ∙ left) c.drop_named.ensures
