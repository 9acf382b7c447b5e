-- The hash of the jimage index (jimage 1.0, a fold in the manner of FNV-1 over the bytes of a
-- name).
use Rattle.std.specs.Prelude.{ℕ, ◌*◌, ◌%◌, ◌^◌, bit_xor, List, [], ◌∷◌}

-- the seed that finds a name's redirect word
abbrev pub default_seed : ℕ
default_seed = 0x01000193

-- the state after the bytes, from a state of 32 bits
abbrev pub state_after : ℕ → List ℕ → ℕ
state_after state [] = state
state_after state (b ∷ bytes) = state_after (bit_xor (state * 0x01000193 % 2 ^ 32) b) bytes

-- the low 31 bits of the last state
abbrev pub hash : ℕ → List ℕ → ℕ
hash seed name = state_after seed name % 2 ^ 31
