-- Sums of small texts, as Python's zlib computes them.
use Rattle.std.proofs.Common.{◌≡◌, [], ◌∷◌, replicate, refl}
use Rattle.jm_inflate.specs.Adler.{adler}

of_nothing : adler [] ≡ 1
of_nothing = refl

-- "abc"
of_letters : adler (97 ∷ 98 ∷ 99 ∷ []) ≡ 38600999
of_letters = refl

-- both sums pass the prime
of_many : adler (replicate 300 255) ≡ 3104778980
of_many = refl
