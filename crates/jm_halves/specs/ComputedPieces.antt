-- Where the pieces of a list of work begin, and what they hold, as values that compute (this
-- project's rule).
use Rattle.std.specs.Prelude.{ℕ, ◌*◌, ◌/◌, List, length, slice_range}

-- the first place of piece k, where so many places are cut into so many pieces
unfoldable pub piece_start : ℕ → ℕ → ℕ → ℕ
piece_start places pieces k = k * places / pieces

-- the items of the pieces from one piece up to and without another
abbrev pub pieces_between : {A : Type 0} → List A → ℕ → ℕ → ℕ → List A
pieces_between xs pieces from to =
    slice_range xs (piece_start (length xs) pieces from) (piece_start (length xs) pieces to)
