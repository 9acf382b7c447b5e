-- What a call of an object in memory moves, as values that compute (this project's rule).
use Rattle.std.specs.Prelude.{ℕ, ◌/◌, List, [], ◌∷◌, length, min, max, take}

-- how many bytes a source gives: all that are left and fit, but at most the next cut's, where a cut
-- is at least 1
abbrev pub given_count : List ℕ → ℕ → ℕ → ℕ
given_count [] left room = min left room
given_count (cut ∷ cuts) left room = min (max 1 cut) (min left room)

-- what a failing call adds: the first half of its bytes, rounded down
abbrev pub first_half : List ℕ → List ℕ
first_half bytes = take (length bytes / 2) bytes
