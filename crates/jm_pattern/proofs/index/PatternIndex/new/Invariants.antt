use Rattle.jm_pattern.specs.Indexing.{IsIndexTo}
use Rattle.jm_pattern.proofs.index.PatternIndex.new.Given as goal

abbrev pub invariant-loop-number : goal.invariant-loop-number
invariant-loop-number l = IsIndexTo l.number l.patterns l.literals l.others
