-- Checks in a stated order, of which the first that finds a fault decides (this project's rule).
use Rattle.std.specs.Prelude.{ℕ, ◌≡◌, ◌<◌, Bool, List, [], ◌∷◌, Option, Some, None, Result, Ok, Err}
use Rattle.std.specs.Prelude.{if◌then◌else◌, slice_get}

-- a check: the fault where the test holds, and nothing elsewhere
abbrev pub fault_if : {F : Type 0} → Bool → F → Option F
fault_if found fault = if found then Some fault else None

-- the rule: a check finds this fault, and no check in front of it finds one
pub record IsFirstFault {F : Type 0} (checks : List (Option F)) (fault : F) : Type 0 where
  pub place : ℕ
  pub found : slice_get checks place ≡ Some (Some fault)
  pub before : (k : ℕ) → k < place → slice_get checks k ≡ Some None

-- the fault of the first check that finds one, or none: `IsFirstFault` as a value
abbrev pub first_fault : {F : Type 0} → List (Option F) → Option F
first_fault [] = None
first_fault (None ∷ checks) = first_fault checks
first_fault (Some fault ∷ checks) = Some fault

-- the value, or the fault in its place
abbrev pub unless_fault : {A F : Type 0} → Option F → A → Result A F
unless_fault None value = Ok value
unless_fault (Some fault) value = Err fault
