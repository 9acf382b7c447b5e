-- Counts of faults.
use Rattle.std.proofs.Common.{ℕ, ◌≤◌, inl, inr, arith}
use Rattle.jm_outside.specs.Outcome.{Rose}

-- a count that rose from a later value rose from an earlier one
pub rose_sooner : (first old new : ℕ) → first ≤ old → Rose old new → Rose first new
rose_sooner first old new sooner (inl more) = inl (omega (arith, sooner, more))
rose_sooner first old new sooner (inr last) = inr last
