use Rattle.std.proofs.Common.{◌∙◌, sym}
use Rattle.jm_pattern.specs.ComputedMatching.{matches}
use Rattle.jm_plugins.proofs.RankLaws.{rank_of_map, rank_of_names}
use Rattle.jm_plugins.proofs.order.rank.Goals as goal

pub returns-in-Patterns : goal.returns-in-Patterns
returns-in-Patterns c =
    let own = c.first_match.ensures ∙ sym (rank_of_map matches c.in-Patterns.index.now c.args.name.now) in
    rw c.in-Patterns.is own

pub returns-in-Names : goal.returns-in-Names
returns-in-Names c =
    let own = c.first_place.ensures ∙ rank_of_names c.in-Names.index.now c.args.name.now in
    rw c.in-Names.is own
