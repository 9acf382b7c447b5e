-- Remainders of small texts, as Python's zlib computes them.
use Rattle.std.proofs.Common.{◌≡◌, [], ◌∷◌, refl}
use Rattle.jm_inflate.specs.Crc.{crc32}

of_nothing : crc32 [] ≡ 0
of_nothing = refl

-- "123456789"
of_digits : crc32 (49 ∷ 50 ∷ 51 ∷ 52 ∷ 53 ∷ 54 ∷ 55 ∷ 56 ∷ 57 ∷ []) ≡ 3421780262
of_digits = refl

-- "abc"
of_letters : crc32 (97 ∷ 98 ∷ 99 ∷ []) ≡ 891568578
of_letters = refl
