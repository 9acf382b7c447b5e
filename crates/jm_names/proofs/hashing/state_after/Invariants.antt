use Rattle.std.proofs.Common.{◌≡◌, drop}
use Rattle.jm_names.specs.Hash.{state_after}
use Rattle.jm_names.proofs.hashing.state_after.Given as goal

-- what is left gives from here the state that the whole gives from the seed
abbrev pub invariant-loop-byte : goal.invariant-loop-byte
invariant-loop-byte l = state_after l.state (drop l.byte-index l.bytes) ≡ state_after l.seed l.bytes
