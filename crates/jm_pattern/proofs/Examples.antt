-- The definitions at examples: they compute.
use Rattle.std.proofs.Common.{◌≡◌, ◌∷◌, [], true, false, Ok, Err, refl}
use Rattle.std.specs.Prelude.{codes}
use Rattle.jm_pattern.specs.ComputedMatching.{matches}
use Rattle.jm_pattern.specs.ComputedReading.{pattern_of}
use Rattle.jm_pattern.specs.Items.{items_of, list_of}
use Rattle.jm_pattern.specs.declared.signs.Sign.TheVariants.{AnyRun, Run, One, Byte}
use Rattle.jm_pattern.specs.declared.signs.PatternFault.TheVariants.{BadEscape, Empty, Prefix}

-- `***` is `**` and then `*`
three-stars : pattern_of (codes "***") ≡ Ok (AnyRun ∷ Run ∷ [])
three-stars = refl

every-sign : pattern_of (codes "**a?\\*") ≡ Ok (AnyRun ∷ Byte 97 ∷ One ∷ Byte 42 ∷ [])
every-sign = refl

escape-at_end : pattern_of (codes "a\\") ≡ Err (BadEscape 1)
escape-at_end = refl

no-byte : pattern_of [] ≡ Err Empty
no-byte = refl

-- a `\` takes a `,` with it, and a last `,` leaves an empty item
cut : items_of (codes "a\\,b,,") ≡ codes "a\\,b" ∷ [] ∷ [] ∷ []
cut = refl

refused : list_of (codes "a,regex:b") ≡ Err (Prefix 1)
refused = refl

glob-once : list_of (codes "glob:@,\\,") ≡ Ok ((Byte 64 ∷ []) ∷ (Byte 44 ∷ []) ∷ [])
glob-once = refl

-- `**/x*y/?` at two names
runs-matched : matches (AnyRun ∷ Byte 47 ∷ Byte 120 ∷ Run ∷ Byte 121 ∷ Byte 47 ∷ One ∷ []) (codes "/x/xy/xwy/z") ≡ true
runs-matched = refl

slash-left : matches (AnyRun ∷ Byte 47 ∷ Byte 120 ∷ Run ∷ Byte 121 ∷ Byte 47 ∷ One ∷ []) (codes "/x/xw/y/z") ≡ false
slash-left = refl

nothing-matched : matches [] [] ≡ true
nothing-matched = refl
