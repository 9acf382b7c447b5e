-- What a pattern's signs stand for, and the names that a pattern matches (this project's rule).
use Rattle.std.specs.Prelude.{◌≡◌, ◌≢◌, ◌↔◌, ◌++◌, ◌∷◌, [], ℕ, List, All}
use Rattle.jm_pattern.specs.declared.signs.Sign.{Sign}
use Rattle.jm_pattern.specs.declared.signs.Sign.TheVariants.{AnyRun, Run, One, Byte}

-- the runs of bytes that one sign stands for; 47 is `/`
abbrev pub StandsFor : Sign → List ℕ → Type 0
StandsFor AnyRun run = Unit {0}
StandsFor Run run = All (λ b. b ≢ 47) run
StandsFor One run = (b : ℕ) × (b ≢ 47) × (run ≡ b ∷ [])
StandsFor (Byte b) run = run ≡ b ∷ []

-- the whole name is a concatenation of what the signs stand for, by cases on the first sign
abbrev pub Match : List Sign → List ℕ → Type 0
Match [] name = name ≡ []
Match (sign ∷ signs) name =
    (run : List ℕ) × (rest : List ℕ) × (name ≡ run ++ rest) × StandsFor sign run × Match signs rest

-- the signs match this name and no other
abbrev pub MatchesOnly : List Sign → List ℕ → Type 0
MatchesOnly signs text = (name : List ℕ) → Match signs name ↔ (name ≡ text)

-- the signs match every name
abbrev pub MatchesAll : List Sign → Type 0
MatchesAll signs = (name : List ℕ) → Match signs name
