-- Modules and services as the nodes of one graph (this project's rule). The node of a module is its
-- place; that of a service lies after those of all modules, and a table tells it.
use Rattle.std.specs.Prelude.{ℕ, ◌≡◌, ◌<◌, ◌≤◌, ◌↔◌, ◌⊎◌, List, [], ◌∷◌, ◌++◌, Some, None, length}
use Rattle.jm_closure.specs.declared.candidate.Candidate.{Candidate}
use Rattle.jm_closure.specs.Graphs.{HasEdge}
use Rattle.jm_closure.specs.Modules.{Requires}
use Rattle.jm_closure.specs.Places.{place_in, Puts}
use Rattle.jm_bind.specs.Binding.{ProvidesService, UsesService}

-- an edge leads from a module to one that it requires and to a service that it uses, and from a
-- service to a module that provides it
abbrev pub IsStep : List Candidate → (ℕ → List ℕ → Type 0) → (ℕ → List ℕ → Type 0)
    → List (List ℕ × ℕ) → ℕ → ℕ → Type 0
IsStep found Uses Provides services i j =
    Requires found i j
    ⊎ (((service : List ℕ) × Uses i service × (place_in services service ≡ Some j))
    ⊎ ((service : List ℕ) × Provides j service × (place_in services service ≡ Some i)))

-- the graph has the edges of what is required, and of these uses and provides
pub record IsDrawn (found : List Candidate) (Uses Provides : ℕ → List ℕ → Type 0)
    (services : List (List ℕ × ℕ)) (graph : List (List ℕ)) : Type 0 where
  pub size : length found ≤ length graph
  pub behind : (service : List ℕ) (node : ℕ) → place_in services service ≡ Some node
      → (length found ≤ node) × (node < length graph)
  pub apart : (a b : List ℕ) (node : ℕ) → place_in services a ≡ Some node
      → place_in services b ≡ Some node → a ≡ b
  pub used : (i : ℕ) (service : List ℕ) → Uses i service
      → (i < length found) × ((node : ℕ) × (place_in services service ≡ Some node))
  pub provided : (i : ℕ) (service : List ℕ) → Provides i service
      → (i < length found) × ((node : ℕ) × (place_in services service ≡ Some node))
  pub exactly : (i j : ℕ) → HasEdge graph i j ↔ IsStep found Uses Provides services i j

-- a relation of modules to services, of the modules below a place alone
abbrev pub Below : ℕ → (ℕ → List ℕ → Type 0) → ℕ → List ℕ → Type 0
Below n Relates i service = (i < n) × Relates i service

-- the graph of all modules and services
abbrev pub IsGraphOfAll : List Candidate → List (List ℕ) → Type 0
IsGraphOfAll found graph =
    (services : List (List ℕ × ℕ))
    × IsDrawn found (UsesService found) (ProvidesService found) services graph

-- the service has a node already, or gets one more, which has no edge
abbrev pub HasNode : List (List ℕ × ℕ) → List (List ℕ) → List (List ℕ × ℕ) → List (List ℕ)
    → List ℕ → Type 0
HasNode services graph services' graph' service =
    ((services' ≡ services) × (graph' ≡ graph))
    ⊎ ((place_in services service ≡ None) × Puts services services' service (length graph)
    × (graph' ≡ graph ++ [] ∷ []))
