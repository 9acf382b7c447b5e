-- Nodes by their numbers, each with the nodes to which it has an edge, and what is reached from
-- some of them (this project's rule).
use Rattle.std.specs.Prelude.{ℕ, ◌≡◌, ◌<◌, ◌≤◌, ◌==◌, ◌⊎◌, true, false, Bool, List, [], ◌∷◌, ◌++◌}
use Rattle.std.specs.Prelude.{Contains, count_by, if◌then◌else◌, length, map, not, slice_index}
use Rattle.std.specs.Prelude.{slice_index_or, slice_set}
use Rattle.jm_closure.specs.Modules.{Leads}

-- the nodes to which a node has an edge
abbrev pub ends_at : List (List ℕ) → ℕ → List ℕ
ends_at graph node = slice_index_or graph node []

-- an edge leads from node i to node j
abbrev pub HasEdge : List (List ℕ) → ℕ → ℕ → Type 0
HasEdge graph i j = Contains (ends_at graph i) j

-- a graph with one edge more
abbrev pub with_edge : List (List ℕ) → ℕ → ℕ → List (List ℕ)
with_edge graph from to = slice_set graph from (ends_at graph from ++ to ∷ [])

-- each edge leads to a node
abbrev pub EndsWithin : List (List ℕ) → Type 0
EndsWithin graph = (i j : ℕ) → HasEdge graph i j → j < length graph

-- of the two graphs, the second has each edge of the first the other way round
pub record IsReversed (graph back : List (List ℕ)) : Type 0 where
  pub size : length back ≡ length graph
  pub within : EndsWithin back
  pub turned : (i j : ℕ) → HasEdge graph i j → HasEdge back j i

-- a node has a flag that is up
abbrev pub IsMarked : List Bool → ℕ → Type 0
IsMarked flags node = slice_index_or flags node false ≡ true

-- one of some nodes leads to node j
abbrev pub LedFrom : List (List ℕ) → List ℕ → ℕ → Type 0
LedFrom graph starts j =
    (i : ℕ) × (places : List ℕ) × Contains starts i × Leads (HasEdge graph) i places j

-- the node leads to itself by one or more edges
abbrev pub OnCycle : List (List ℕ) → ℕ → Type 0
OnCycle graph node = LedFrom graph (ends_at graph node) node

-- Rounds: in each one, some nodes are reached that were not reached in the rounds before. A list
-- has the round of each node, 0 for a node that is not reached yet.

-- the round in which a node was reached, 0 where it wasn't yet
abbrev pub round_of : List ℕ → ℕ → ℕ
round_of rounds node = slice_index rounds node

-- a node was reached
abbrev pub IsReached : List ℕ → ℕ → Type 0
IsReached rounds node = 0 < round_of rounds node

-- a flag for each node: whether it was reached
abbrev pub marks_of : List ℕ → List Bool
marks_of rounds = map (λ round. not (round == 0)) rounds

-- how many nodes are not reached yet
abbrev pub unreached : List ℕ → ℕ
unreached rounds = count_by (λ round. round == 0) rounds

-- within a round that began with some nodes: those of `work` are reached, and their edges are still
-- to be followed; those of `next` are still to be reached
pub record InRound (graph : List (List ℕ)) (before starts : List ℕ) (round : ℕ)
    (rounds work next : List ℕ) : Type 0 where
  pub size : length rounds ≡ length graph
  pub kept : (i : ℕ) → IsReached before i → round_of rounds i ≡ round_of before i
  pub fresh : (i : ℕ) → IsReached rounds i → (round_of before i ≡ round_of rounds i)
      ⊎ ((round_of rounds i ≡ round) × LedFrom graph starts i)
  pub queued : (i : ℕ) → Contains work i → (i < length graph) × LedFrom graph starts i
  pub coming : (i : ℕ) → Contains next i → (i < length graph) × LedFrom graph starts i
  pub begun : (i : ℕ) → Contains starts i → IsReached rounds i ⊎ Contains next i
  pub followed : (i j : ℕ) → IsReached rounds i → HasEdge graph i j
      → IsReached before i ⊎ (Contains work i ⊎ (IsReached rounds j ⊎ Contains next j))

-- a node is reached in a round, unless it was reached already
abbrev pub with_reached : List ℕ → ℕ → ℕ → List ℕ
with_reached rounds round node =
    if round_of rounds node == 0 then slice_set rounds node round else rounds

-- the nodes whose edges are to be followed, with one more, unless it was reached already
abbrev pub with_queued : List ℕ → List ℕ → ℕ → List ℕ
with_queued rounds work node =
    if round_of rounds node == 0 then work ++ node ∷ [] else work

-- the nodes to be reached are reached, in each round
abbrev pub Reaches : List ℕ → List ℕ → List ℕ → List ℕ → ℕ → List ℕ → Type 0
Reaches rounds work rounds' work' round next =
    (graph : List (List ℕ)) (before starts : List ℕ) →
    InRound graph before starts round rounds work next →
    InRound graph before starts round rounds' work' []

-- what a round that began with some nodes comes to: it reaches what they lead to, and was not
-- reached before, except after nodes that were
pub record IsRound (graph : List (List ℕ)) (before starts : List ℕ) (round : ℕ)
    (rounds : List ℕ) : Type 0 where
  pub size : length rounds ≡ length graph
  pub kept : (i : ℕ) → IsReached before i → round_of rounds i ≡ round_of before i
  pub fresh : (i : ℕ) → IsReached rounds i → (round_of before i ≡ round_of rounds i)
      ⊎ ((round_of rounds i ≡ round) × LedFrom graph starts i)
  pub begun : (i : ℕ) → Contains starts i → IsReached rounds i
  pub followed : (i j : ℕ) → IsReached rounds i → HasEdge graph i j
      → IsReached before i ⊎ IsReached rounds j

-- no edge leads from a later round to an earlier one
abbrev pub RoundsRise : List (List ℕ) → List ℕ → Type 0
RoundsRise graph rounds =
    (i j : ℕ) → HasEdge graph i j → IsReached rounds j
    → IsReached rounds i × (round_of rounds i ≤ round_of rounds j)

-- the same of the edges the other way round, and no round is later than this one
pub record RoundsSoFar (back : List (List ℕ)) (round : ℕ) (rounds : List ℕ) : Type 0 where
  pub size : length rounds ≡ length back
  pub within : (i : ℕ) → round_of rounds i ≤ round
  pub rise : (i j : ℕ) → HasEdge back j i → IsReached rounds j
      → IsReached rounds i × (round_of rounds i ≤ round_of rounds j)
