-- Whether signs match a name, as a value that computes. The rule is `Match` of Matching;
-- proofs/ComputedMatchingLaws ties them together.
use Rattle.std.specs.Prelude.{◌==◌, ◌∷◌, [], ℕ, Bool, true, false, List, if◌then◌else◌}
use Rattle.std.specs.List.{list_any}
use Rattle.jm_pattern.specs.declared.signs.Sign.{Sign}
use Rattle.jm_pattern.specs.declared.signs.Sign.TheVariants.{AnyRun, Run, One, Byte}

-- what a run of bytes at its front leaves of a name, for each such run
abbrev pub behind_any : List ℕ → List (List ℕ)
behind_any [] = [] ∷ []
behind_any (b ∷ name) = (b ∷ name) ∷ behind_any name

-- what a run of bytes without `/`, which is 47, at its front leaves of a name, for each such run
abbrev pub behind_run : List ℕ → List (List ℕ)
behind_run [] = [] ∷ []
behind_run (b ∷ name) = (b ∷ name) ∷ (if b == 47 then [] else behind_run name)

-- what a sign leaves of a name, for each run at the name's front that it stands for
abbrev pub left_by : Sign → List ℕ → List (List ℕ)
left_by AnyRun name = behind_any name
left_by Run name = behind_run name
left_by One [] = []
left_by One (b ∷ name) = if b == 47 then [] else name ∷ []
left_by (Byte own) [] = []
left_by (Byte own) (b ∷ name) = if b == own then name ∷ [] else []

-- `Match` as a value: the signs match the whole name
abbrev pub matches : List Sign → List ℕ → Bool
matches [] [] = true
matches [] (b ∷ name) = false
matches (sign ∷ signs) name = list_any (matches signs) (left_by sign name)

-- one of the patterns matches the name
abbrev pub matches_any : List (List Sign) → List ℕ → Bool
matches_any patterns name = list_any (λ pattern. matches pattern name) patterns
