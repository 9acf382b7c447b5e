-- Files that are made one after another (this project's rule).
use Rattle.std.specs.Prelude.{ℕ, ◌≡◌, ◌≢◌, ◌≤◌, ◌⊎◌, List, [], ◌∷◌, length, take, All, Option}
use Rattle.std.specs.Prelude.{option_map}
use Rattle.jm_outside.specs.Files.{Files, put}
use Rattle.jm_outside.specs.Outcome.{Told}

-- each file's path and its bytes, in the order in which they are made
abbrev pub Writes : Type 0
Writes = List (List ℕ × List ℕ)

-- the files with all of them made
abbrev pub written : Files → Writes → Files
written files [] = files
written files (write ∷ writes) = written (put files write.0 write.1) writes

-- each of them is made at another path than this
abbrev pub Elsewhere : Writes → List ℕ → Type 0
Elsewhere writes path = All (λ write. write.0 ≢ path) writes

-- a front of the bytes stands at the path; the other files are as before
abbrev pub StandsInPart : Files → List ℕ × List ℕ → Files → Type 0
StandsInPart old write new =
    (n : ℕ) × (n ≤ length write.1) × (new ≡ put old write.0 (take n write.1))

-- they were broken off: some stand whole, of the next one a front or what it was before, and all
-- other files are as before
abbrev pub BrokenOff : Files → Writes → Files → Type 0
BrokenOff old [] new = new ≡ old
BrokenOff old (write ∷ writes) new =
    (new ≡ old) ⊎ (StandsInPart old write new ⊎ BrokenOff (put old write.0 write.1) writes new)

-- all of them were made, where the files are told
abbrev pub MadeAll : Writes → Option Files → Option Files → Type 0
MadeAll writes old new = new ≡ option_map (λ files. written files writes) old

-- they were broken off, where the files are told
abbrev pub MadePart : Writes → Option Files → Option Files → Type 0
MadePart writes old new = Told old new (λ before after. BrokenOff before writes after)
