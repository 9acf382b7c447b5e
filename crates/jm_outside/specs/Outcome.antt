-- What is known of the content of a shelf, a source or a sink that may tell it, and of its count of
-- faults (this project's rule).
use Rattle.std.specs.Prelude.{◌≡◌, ◌<◌, ◌≤◌, ◌-◌, ◌^◌, ℕ, List, [], ◌++◌, Option, Some, None, ◌⊎◌}
use Rattle.std.specs.Prelude.{length, take}
use Rattle.jm_outside.specs.Files.{Files, put, add}

-- a fact about what is told, if it is
abbrev pub Shows : {A : Type 0} → Option A → (A → Type 0) → Type 0
Shows None P = Unit {0}
Shows (Some told) P = P told

-- a fact about what is told before and after; what was told stays told
abbrev pub Told : {A : Type 0} → Option A → Option A → (A → A → Type 0) → Type 0
Told None new P = Unit {0}
Told (Some old) None P = ⊥
Told (Some old) (Some new) P = P old new

-- the files are as before, or the file is there and empty
abbrev pub AsBeforeOrEmpty : Files → Files → List ℕ → Type 0
AsBeforeOrEmpty old new path = (new ≡ old) ⊎ (new ≡ put old path [])

-- a prefix of the bytes was added to the file: the files are as before where it is none
abbrev pub AddsFront : Files → Files → List ℕ → List ℕ → Type 0
AddsFront old new path bytes =
    (new ≡ old) ⊎ ((n : ℕ) × (n ≤ length bytes) × (new ≡ add old path (take n bytes)))

-- a prefix of the bytes was put at the end
abbrev pub PutsFront : List ℕ → List ℕ → List ℕ → Type 0
PutsFront old new bytes = (n : ℕ) × (n ≤ length bytes) × (new ≡ old ++ take n bytes)

-- a count rose in a call: it is greater, or stands at the last value of a counter of 64 bits
abbrev pub Rose : ℕ → ℕ → Type 0
Rose old new = (old < new) ⊎ (new ≡ 2 ^ 64 - 1)

-- a count of faults over a call: it never falls, it stays where the call answers Ok, and it rose
-- where the call failed
pub record CountsFaults (old new : ℕ) (ok failed : Type 0) : Type 0 where
  pub count : old ≤ new
  pub kept : ok → new ≡ old
  pub rose : failed → Rose old new
