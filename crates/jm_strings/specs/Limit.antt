-- How long a strings section is at most (this project's rule).
use Rattle.std.specs.Prelude.{ℕ}

-- the most bytes that a strings section has: 2^30
abbrev pub limit : ℕ
limit = 1073741824
