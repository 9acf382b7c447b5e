use Rattle.jm_pattern.proofs.ComputedMatchingLaws.{test-matches}
use Rattle.jm_pattern.proofs.signs.Pattern.matches_counted.Goals as goal

pub returns-clause-value : goal.returns-clause-value
returns-clause-value g c = rw (← c.self.view_is, ← c.as_slice.ensures) (test-matches c.is_match.result c.as_slice.result.now
    c.args.name.now c.is_match.ensures.rule)
