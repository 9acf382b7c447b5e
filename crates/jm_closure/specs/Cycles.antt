-- Nodes that lead to themselves, found by rounds against the edges (this project's rule).
use Rattle.std.specs.Prelude.{ℕ, ◌≡◌, ◌≢◌, ◌↔◌, List, ◌∷◌, ◌++◌, Option, Some, None, All, Contains}
use Rattle.std.specs.Prelude.{length}
use Rattle.jm_closure.specs.declared.candidate.Candidate.{Candidate}
use Rattle.jm_closure.specs.Graphs.{round_of, EndsWithin, HasEdge}
use Rattle.jm_closure.specs.Modules.{Requires}

-- the first of a list with a property, or none
abbrev pub IsFirstOf : (ℕ → Type 0) → List ℕ → Option ℕ → Type 0
IsFirstOf P order None = All (λ i. ¬ P i) order
IsFirstOf P order (Some i) =
    P i × ((front : List ℕ) × (rest : List ℕ)
    × (order ≡ front ++ i ∷ rest) × All (λ j. ¬ P j) front)

-- edges from some nodes to one were added
pub record Turns (old new : List (List ℕ)) (node : ℕ) (ends : List ℕ) : Type 0 where
  pub size : length new ≡ length old
  pub kept : (i j : ℕ) → HasEdge old i j → HasEdge new i j
  pub added : (j : ℕ) → Contains ends j → HasEdge new j node
  pub within : EndsWithin old → EndsWithin new

-- no edge of a node leads to a node of its own round
abbrev pub LeavesRound : List (List ℕ) → List ℕ → ℕ → Type 0
LeavesRound graph rounds node =
    (j : ℕ) → HasEdge graph node j → round_of rounds j ≢ round_of rounds node

-- the graph of the modules found, with an edge to each that one requires without `static`
pub record IsGraphOf (found : List Candidate) (graph : List (List ℕ)) : Type 0 where
  pub size : length graph ≡ length found
  pub exactly : (i j : ℕ) → HasEdge graph i j ↔ Requires found i j
