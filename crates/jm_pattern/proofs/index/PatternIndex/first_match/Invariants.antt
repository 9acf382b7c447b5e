use Rattle.jm_pattern.proofs.IndexLaws.{Failed}
use Rattle.jm_pattern.proofs.index.PatternIndex.first_match.Given as goal

abbrev pub invariant-loop-number : goal.invariant-loop-number
invariant-loop-number l = Failed l.self-inside.patterns.now l.number-items l.name l.number-index
