-- The flags of the slots that are taken, as the code keeps them (this project's rule).
use Rattle.std.specs.Prelude.{ℕ, ◌≡◌, ◌<◌, Bool, true, false, List, [], length, map, All}
use Rattle.std.specs.Prelude.{slice_index_or, if◌then◌else◌}
use Rattle.jm_form.specs.declared.table.Redirect.TheVariants as redirect
use Rattle.jm_form.specs.Greedy.{is_among, slots_led}
use Rattle.jm_redirect.specs.declared.turns.Turn.{Turn}

-- the flags are true at the slots that are taken, and at no other
pub record Marks (flags : List Bool) (taken : List ℕ) : Type 0 where
  pub at : (slot : ℕ) → slot < length flags → slice_index_or flags slot false ≡ is_among taken slot

-- the flags of these slots are false, and the others as they were
abbrev pub Unmarks : List ℕ → List Bool → List Bool → Type 0
Unmarks slots old new =
    (slot : ℕ) → slot < length old → slice_index_or new slot false
    ≡ (if is_among slots slot then false else slice_index_or old slot false)

-- all slots in front of a place are taken
pub record TakenBelow (free : ℕ) (taken : List ℕ) : Type 0 where
  pub below : (slot : ℕ) → slot < free → is_among taken slot ≡ true

-- the turns are those of names in the list
abbrev pub AllWithin : List (List ℕ) → List Turn → Type 0
AllWithin names turns = All (λ turn. turn.place < length names) turns

-- the names that have these turns
abbrev pub names_at : List (List ℕ) → List Turn → List (List ℕ)
names_at names turns = map (λ turn. slice_index_or names turn.place []) turns

-- the slots to which a seed sends names
abbrev pub slots_sent : ℕ → ℕ → List (List ℕ) → List ℕ
slots_sent slots seed names = slots_led slots (redirect.Seed seed) names
