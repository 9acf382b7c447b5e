-- How far a search for a match has come: what is left to match decides for the whole (words of the
-- proof).
use Rattle.std.specs.Prelude.{◌≡◌, ◌≤◌, ◌==◌, ◌∷◌, [], ℕ, List, length, if◌then◌else◌}
use Rattle.jm_pattern.specs.Matching.{StandsFor, Match}
use Rattle.jm_pattern.specs.declared.signs.Sign.{Sign}
use Rattle.jm_pattern.specs.declared.signs.Sign.TheVariants.{AnyRun, Run, One, Byte}

-- the signs and the name left match exactly where the whole do, and no match that begins later,
-- behind a `*` or a `**`, is lost by going on from there
pub record Leads (signs : List Sign) (name : List ℕ)
    (signs_left : List Sign) (name_left : List ℕ) : Type 0 where
  pub back : Match signs_left name_left → Match signs name
  pub on : Match signs name → Match signs_left name_left
  pub run : Match (Run ∷ signs) name → Match (Run ∷ signs_left) name_left
  pub any : Match (AnyRun ∷ signs) name → Match (AnyRun ∷ signs_left) name_left

-- what is left is no longer than the signs and the name
pub record NoLonger (signs : List Sign) (name : List ℕ)
    (signs_left : List Sign) (name_left : List ℕ) : Type 0 where
  pub in_signs : length signs_left ≤ length signs
  pub in_name : length name_left ≤ length name

-- the first sign stands for the first byte, and both are taken off
pub record TakesByte (signs : List Sign) (name : List ℕ)
    (signs_left : List Sign) (name_left : List ℕ) : Type 0 where
  pub sign : Sign
  pub byte : ℕ
  pub signs_are : signs ≡ sign ∷ signs_left
  pub name_is : name ≡ byte ∷ name_left
  pub stands : StandsFor sign (byte ∷ [])

-- a sign stands for one byte
abbrev pub IsFixed : Sign → Type 0
IsFixed AnyRun = ⊥
IsFixed Run = ⊥
IsFixed One = Unit {0}
IsFixed (Byte b) = Unit {0}

-- the first sign stands for one byte
abbrev pub BeginsFixed : List Sign → Type 0
BeginsFixed [] = ⊥
BeginsFixed (sign ∷ signs) = IsFixed sign

-- all is matched, or a `*` or a `**` comes next
abbrev pub AtRun : List Sign → List ℕ → Type 0
AtRun [] name = name ≡ []
AtRun (sign ∷ signs) name = ¬ IsFixed sign

-- all is matched, or a `**` comes next
abbrev pub AtAny : List Sign → List ℕ → Type 0
AtAny [] name = name ≡ []
AtAny (sign ∷ signs) name = sign ≡ AnyRun

-- what stands behind the first line of a name, which ends with its first `/`; 47 is `/`
abbrev pub behind_line : List ℕ → List ℕ
behind_line [] = []
behind_line (b ∷ name) = if b == 47 then name else behind_line name
