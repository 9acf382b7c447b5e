use Rattle.std.proofs.Common.{◌≡◌, drop}
use Rattle.jm_words.specs.Drafts.{the}
use Rattle.jm_words.proofs.drafts.take.Given as goal

-- what was given so far is of another field, and stays
abbrev pub invariant-loop-place : goal.invariant-loop-place
invariant-loop-place l = (the l.field l.values ≡ the l.field (drop l.place l.values)) × (l.values ≡ l.fn.values)
