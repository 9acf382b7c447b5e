-- The Adler-32 of bytes (RFC 1950, 2.2).
use Rattle.std.specs.Prelude.{ℕ, ◌+◌, ◌*◌, ◌%◌, List, [], ◌∷◌, length, take, sum}
use Rattle.std.specs.List.{sum_by, range_with_len}

-- the first sum: 1 and all bytes
abbrev pub first_sum : List ℕ → ℕ
first_sum bytes = 1 + sum bytes

-- the second sum: of the first sums after each byte
abbrev pub second_sum : List ℕ → ℕ
second_sum bytes = sum_by (λ n. first_sum (take n bytes)) (range_with_len 1 (length bytes))

-- both modulo 65,521, the greatest prime below 2 ^ 16: the second in the high half of a word, the first in the low one
abbrev pub adler : List ℕ → ℕ
adler bytes = second_sum bytes % 65521 * 65536 + first_sum bytes % 65521

-- what each byte adds to the second sum: it is in the first sums from it on
abbrev pub weighted : List ℕ → ℕ
weighted [] = 0
weighted (b ∷ bytes) = (1 + length bytes) * b + weighted bytes
