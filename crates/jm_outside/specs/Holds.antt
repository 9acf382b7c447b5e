-- What writing does to the files of a shelf (this project's rule).
use Rattle.std.specs.Prelude.{ℕ, ◌≡◌, ◌≤◌, ◌⊎◌, List, length, take, Option, option_map}
use Rattle.jm_outside.specs.Files.{Files, put}
use Rattle.jm_outside.specs.Outcome.{Told}

-- the file at a path has these bytes, and the others are as in some files, where these are told
abbrev pub Holds : Option Files → List ℕ → List ℕ → Option Files → Type 0
Holds base path bytes now = now ≡ option_map (λ files. put files path bytes) base

-- the files are as before, or the file at a path has a front of these bytes
abbrev pub HoldsFront : Files → List ℕ → List ℕ → Files → Type 0
HoldsFront old path bytes new =
    (new ≡ old) ⊎ ((n : ℕ) × (n ≤ length bytes) × (new ≡ put old path (take n bytes)))

-- the same where they are told
abbrev pub HoldsPart : Option Files → List ℕ → List ℕ → Option Files → Type 0
HoldsPart base path bytes now = Told base now (λ old new. HoldsFront old path bytes new)
