-- A source or a sink as the proofs see it, and what a sink gets (this project's rule).
use Rattle.std.specs.Prelude.{ℕ, ◌≡◌, ◌++◌, List, Option, option_map}
use Rattle.jm_outside.specs.Outcome.{PutsFront, Rose, Told}

-- what a source or a sink tells, if it tells it, and its count of faults
pub record Seen (A : Type 0) : Type 0 where
  pub told : Option A
  pub faults : ℕ

-- what one of them tells and its count of faults, together
abbrev pub seen : {A : Type 0} → Option A → ℕ → Seen A
seen told faults = record { told = told; faults = faults }

-- a source or a sink failed: its count of faults rose
abbrev pub Failed : {A : Type 0} → Seen A → Seen A → Type 0
Failed old new = Rose old.faults new.faults

-- the sink got this text after what it had
abbrev pub Gets : List ℕ → Seen (List ℕ) → Seen (List ℕ) → Type 0
Gets text old new = new.told ≡ option_map (λ put. put ++ text) old.told

-- the sink got a prefix of this text after what it had
abbrev pub GetsFront : List ℕ → Seen (List ℕ) → Seen (List ℕ) → Type 0
GetsFront text old new = Told old.told new.told (λ before after. PutsFront before after text)
