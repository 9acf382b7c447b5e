-- What the text of a pattern reads as (this project's rule); 42 is `*` and 92 is `\`.
use Rattle.std.specs.Prelude.{◌≡◌, ◌≢◌, ◌++◌, ◌∷◌, [], ℕ, List, length, ◌⊎◌, codes}
use Rattle.jm_pattern.specs.declared.signs.PatternFault.{PatternFault}
use Rattle.jm_pattern.specs.declared.signs.PatternFault.TheVariants.{BadEscape, Empty}
use Rattle.jm_pattern.specs.declared.signs.PatternFault.TheVariants.{Prefix}
use Rattle.jm_pattern.specs.declared.signs.Sign.{Sign}
use Rattle.jm_pattern.specs.declared.signs.Sign.TheVariants.{AnyRun, Run, One, Byte}

-- a text begins with a byte
abbrev pub BeginsWith : ℕ → List ℕ → Type 0
BeginsWith b [] = ⊥
BeginsWith b (c ∷ text) = c ≡ b

-- a byte that stands for itself: none of `*`, `?` and `\`
abbrev pub IsPlain : ℕ → Type 0
IsPlain b = (b ≢ 42) × (b ≢ 63) × (b ≢ 92)

-- the bytes in front of a rest that spell a sign
abbrev pub Spells : Sign → List ℕ → List ℕ → Type 0
Spells AnyRun front rest = front ≡ codes "**"
Spells Run front rest = (front ≡ codes "*") × ¬ BeginsWith 42 rest
Spells One front rest = front ≡ codes "?"
Spells (Byte b) front rest = (front ≡ 92 ∷ b ∷ []) ⊎ (front ≡ b ∷ []) × IsPlain b

-- the text is a concatenation of what spells the signs, by cases on the first sign
abbrev pub Reads : List ℕ → List Sign → Type 0
Reads text [] = text ≡ []
Reads text (sign ∷ signs) =
    (front : List ℕ) × (rest : List ℕ) × (text ≡ front ++ rest) × Spells sign front rest
    × Reads rest signs

-- the text ends with a `\` at this place, behind bytes that read as signs
pub record EndsEscaped (text : List ℕ) (at : ℕ) : Type 0 where
  pub front : List ℕ
  pub signs : List Sign
  pub whole : text ≡ front ++ 92 ∷ []
  pub reads : Reads front signs
  pub place : at ≡ length front

-- why a text is no pattern: it has no byte, or it ends with a `\` that takes none
abbrev pub IsFaultOf : List ℕ → PatternFault → Type 0
IsFaultOf text (BadEscape at) = EndsEscaped text at
IsFaultOf text Empty = text ≡ []
IsFaultOf text (Prefix number) = ⊥
