use Rattle.std.proofs.Common.{◌≡◌, drop}
use Rattle.jm_words.specs.Drafts.{the}
use Rattle.jm_words.proofs.drafts.find.Given as goal

-- what was given so far is of another field
abbrev pub invariant-loop-given : goal.invariant-loop-given
invariant-loop-given l = the l.field l.values ≡ the l.field (drop l.given-index l.values)
