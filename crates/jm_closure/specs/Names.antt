-- Found modules by their names (this project's rule).
use Rattle.std.specs.Prelude.{ℕ, ◌≡◌, ◌<◌, ◌↔◌, List, Some, AllPairs, All, Contains, IsTrue, length}
use Rattle.std.specs.Prelude.{slice_get, filter_map, map}
use Rattle.std.specs.Cmp.Lexicographic.{slice_cmp}
use Rattle.std.specs.Ordering.{is_lt, nat_cmp}
use Rattle.jm_closure.specs.declared.candidate.Candidate.{Candidate}
use Rattle.jm_closure.specs.Modules.{name_of, required_by, HasName}
use Rattle.jm_closure.specs.Places.{place_in}

-- two places with one name are one place
abbrev pub NamesDiffer : List Candidate → Type 0
NamesDiffer found = (i j : ℕ) (name : List ℕ) → HasName found i name → HasName found j name → i ≡ j

-- a name has the place of the found module of this name, and none where none is found
abbrev pub Indexes : List Candidate → List (List ℕ × ℕ) → Type 0
Indexes found names =
    (name : List ℕ) (i : ℕ) → (place_in names name ≡ Some i) ↔ HasName found i name

-- the module at place i has a lesser name than the one at place j
abbrev pub Precedes : List Candidate → ℕ → ℕ → Type 0
Precedes found i j =
    (a b : Candidate) → slice_get found i ≡ Some a → slice_get found j ≡ Some b
    → IsTrue (is_lt (slice_cmp nat_cmp (name_of a) (name_of b)))

-- these are the places of all found modules, rising by name
pub record IsOrder (found : List Candidate) (order : List ℕ) : Type 0 where
  pub each : (i : ℕ) → i < length found → Contains order i
  pub within : All (λ i. i < length found) order
  pub rising : AllPairs (Precedes found) order

-- the places of some names, in their order, without those that have none
abbrev pub places_among : List (List ℕ × ℕ) → List (List ℕ) → List ℕ
places_among names texts = filter_map (place_in names) texts

-- each found module has an edge to those that it requires without `static`
abbrev pub edges_of : List (List ℕ × ℕ) → List Candidate → List (List ℕ)
edges_of names found = map (λ c. places_among names (required_by c)) found
