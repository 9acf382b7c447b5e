use Rattle.std.proofs.Common.{◌≡◌, ℕ, drop, length}
use Rattle.jm_valid.proofs.passages.has_long_text.Given as goal

abbrev pub decreases-loop-rest : goal.decreases-loop-rest
decreases-loop-rest l = length l.rest

abbrev pub invariant-loop-rest : goal.invariant-loop-rest
invariant-loop-rest l = (place : ℕ) × (l.rest ≡ drop place l.texts)
