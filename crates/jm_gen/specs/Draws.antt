-- Numbers that are drawn one after another: a linear congruence of 64 bits (this project's rule;
-- the factor and the summand are those of D. Knuth's MMIX).
use Rattle.std.specs.Prelude.{ℕ, zero, suc, ◌+◌, ◌*◌, ◌%◌, ◌^◌}

-- the number that is drawn after another
abbrev pub draw : ℕ → ℕ
draw x = (x * 6364136223846793005 + 1442695040888963407) % 2 ^ 64

-- what that many draws make of a seed
abbrev pub drawn : ℕ → ℕ → ℕ
drawn seed zero = seed
drawn seed (suc n) = draw (drawn seed n)
