-- The signs of a text, computed from left to right. The rules are `Reads` and `EndsEscaped` of
-- Reading; proofs/ComputedReadingLaws ties them together.
use Rattle.std.specs.Prelude.{◌==◌, ◌&&◌, ◌+◌, ◌++◌, ◌∷◌, [], ℕ, List, Result, Ok, Err}
use Rattle.std.specs.Prelude.{if◌then◌else◌}
use Rattle.jm_pattern.specs.declared.signs.Sign.{Sign}
use Rattle.jm_pattern.specs.declared.signs.Sign.TheVariants.{AnyRun, Run, One, Byte}
use Rattle.jm_pattern.specs.declared.signs.PatternFault.{PatternFault}
use Rattle.jm_pattern.specs.declared.signs.PatternFault.TheVariants.{BadEscape, Empty}

-- the items read so far before those that a reading gives; a fault stays
abbrev pub with_front : {A : Type 0} → List A
    → Result (List A) PatternFault → Result (List A) PatternFault
with_front front (Ok rest) = Ok (front ++ rest)
with_front front (Err fault) = Err fault

-- the sign of one byte by itself: `*`, `?`, or the byte
abbrev pub sign_of : ℕ → Sign
sign_of b = if b == 42 then Run else if b == 63 then One else Byte b

-- the signs of a text that begins at a place, from left to right; 42 is `*`, 92 is `\`
abbrev pub signs_from : ℕ → List ℕ → Result (List Sign) PatternFault
signs_from at [] = Ok []
signs_from at (b ∷ []) = if b == 92 then Err (BadEscape at) else Ok (sign_of b ∷ [])
signs_from at (b ∷ c ∷ text) =
    if b == 92 then with_front (Byte c ∷ []) (signs_from (at + 2) text)
    else if b == 42 && c == 42 then with_front (AnyRun ∷ []) (signs_from (at + 2) text)
    else with_front (sign_of b ∷ []) (signs_from (at + 1) (c ∷ text))

-- the signs of a pattern's text, which has a byte
abbrev pub pattern_of : List ℕ → Result (List Sign) PatternFault
pattern_of [] = Err Empty
pattern_of (b ∷ text) = signs_from 0 (b ∷ text)
