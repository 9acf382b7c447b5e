-- Live constants: those that a site names, at once or by other constants (this project's rule).
use Rattle.std.specs.Prelude.{ℕ, ◌≡◌, ◌+◌, ◌<◌, ◌↔◌, Bool, true, false, List, [], ◌∷◌, Option, Some}
use Rattle.std.specs.Prelude.{Contains, length, map, slice_get, slice_index_or}
use Rattle.jm_class.specs.Classes.{SlotData, Hole, ClassData, slot_at}
use Rattle.jm_poolmap.specs.declared.site.FoundSite.{FoundSite}
use Rattle.jm_poolmap.specs.Sites.{found_in, named_by}

-- constant i names constant j
abbrev pub Names : List SlotData → ℕ → ℕ → Type 0
Names pool i j = (slot : SlotData) × (slot_at pool i ≡ Some slot) × Contains (named_by slot) j

-- a list of constants from i to j, in which each names the next
abbrev pub Leads : List SlotData → ℕ → List ℕ → ℕ → Type 0
Leads pool i [] j = i ≡ j
Leads pool i (k ∷ between) j = Names pool i k × Leads pool k between j

-- the number stands at a site
abbrev pub StandsAtSite : ClassData → ℕ → Type 0
StandsAtSite c i =
    (found : List FoundSite) × (found_in c ≡ Some found) × Contains (map (λ f. f.number) found) i

-- there is a list of constants that begins with one at a site and ends with that of the number, in
-- which each names the next
abbrev pub IsLive : ClassData → ℕ → Type 0
IsLive c j = (i : ℕ) × (between : List ℕ) × StandsAtSite c i × Leads c.pool i between j

-- the number of the constant that takes the slot at a place: a hole is its second number
abbrev pub first_number : Option SlotData → ℕ → ℕ
first_number (Some Hole) place = place
first_number _ place = place + 1

-- the number of the constant that takes a slot of the pool
abbrev pub number_of : List SlotData → ℕ → ℕ
number_of pool place = first_number (slice_get pool place) place

-- a flag for each slot of the pool: whether its constant is live
pub record TellsLive (c : ClassData) (flags : List Bool) : Type 0 where
  pub size : length flags ≡ length c.pool
  pub exactly : (place : ℕ) → place < length c.pool
      → (slice_index_or flags place false ≡ true) ↔ IsLive c (number_of c.pool place)
