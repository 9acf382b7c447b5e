use Rattle.std.proofs.Common.{◌≡◌, drop}
use Rattle.jm_pattern.specs.Indexing.{literal}
use Rattle.jm_pattern.proofs.IndexLaws.{after}
use Rattle.jm_pattern.proofs.index.literal.Given as goal

abbrev pub invariant-loop-sign : goal.invariant-loop-sign
invariant-loop-sign l = after l.text (literal (drop l.sign-index l.signs)) ≡ literal l.signs
