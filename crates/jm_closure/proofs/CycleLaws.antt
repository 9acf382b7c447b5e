-- Edges the other way round, rounds against the edges, and the nodes of cycles.
use Rattle.std.proofs.Common.{◌≡◌, ◌≢◌, ℕ, suc, ◌+◌, ◌<◌, ◌≤◌, inl, inr, List, [], ◌∷◌, ◌++◌, length, All}
use Rattle.std.proofs.Common.{Contains, sym, ◌∙◌, ap, subst, arith, drop, drop-cons, get_or, take, Some}
use Rattle.std.proofs.Common.{length-set}
use Rattle.std.proofs.lemmas.Bool.{cases_eq, cases_lt}
use Rattle.std.proofs.lemmas.List.Elements.{All-push, Contains-push_cases}
use Rattle.std.proofs.lemmas.List.{take_more, take-append-drop}
use Rattle.jm_closure.specs.Cycles.{IsFirstOf, LeavesRound, Turns}
use Rattle.jm_closure.specs.Graphs.{ends_at, round_of, with_edge, EndsWithin, HasEdge, IsReached}
use Rattle.jm_closure.specs.Graphs.{OnCycle, RoundsRise}
use Rattle.jm_closure.specs.Modules.{Leads}
use Rattle.jm_closure.proofs.GraphLaws.{edge_cases, edge_kept, edge_new}

-- Edges turned

pub turns_more : (old mid : List (List ℕ)) (node x : ℕ) (front : List ℕ)
    → x < length mid → node < length mid
    → Turns old mid node front → Turns old (with_edge mid x node) node (front ++ x ∷ [])
turns_more old mid node x front within inside turns = record {
  size = length-set mid x (ends_at mid x ++ node ∷ []) ∙ turns.size;
  kept = λ i j edge. edge_kept mid x node within i j (turns.kept i j edge);
  added = λ j there. elim (Contains-push_cases front x j there) [
    | inl old ↦ edge_kept mid x node within j node (turns.added j old)
    | inr same ↦ subst (λ k. HasEdge (with_edge mid x node) k node) same (edge_new mid x node within)
  ];
  within = λ before i j edge. rw (length-set mid x (ends_at mid x ++ node ∷ []))
      (elim (edge_cases mid x node within i j edge) [
        | inl old ↦ turns.within before i j old
        | inr (_, same) ↦ subst (λ k. k < length mid) same inside
      ]);
}

-- The edges of one node more are turned

pub reversed_more : (graph back back' : List (List ℕ)) (node : ℕ)
    → Turns back back' node (ends_at graph node)
    → length back ≡ length graph → EndsWithin back
    → ((i j : ℕ) → i < node → HasEdge graph i j → HasEdge back j i)
    → (length back' ≡ length graph) × EndsWithin back'
    × ((i j : ℕ) → i < node + 1 → HasEdge graph i j → HasEdge back' j i)
reversed_more graph back back' node turns size within turned = (
  turns.size ∙ size,
  turns.within within,
  λ i j before edge. elim (cases_eq i node) [
    | inl same ↦ subst (λ k. HasEdge back' j k) (sym same) (turns.added j (subst (λ k. HasEdge graph k j) same edge))
    | inr other ↦ turns.kept j i (turned i j (omega arith) edge)
  ],
)

-- One round more

-- Cycles

rounds_walked : (graph : List (List ℕ)) (rounds : List ℕ) → RoundsRise graph rounds
    → (i : ℕ) (places : List ℕ) (j : ℕ) → Leads (HasEdge graph) i places j → IsReached rounds j
    → IsReached rounds i × (round_of rounds i ≤ round_of rounds j)
rounds_walked graph rounds rise i [] j same is =
    let at = ap (round_of rounds) same in (omega arith, omega arith)
rounds_walked graph rounds rise i (k ∷ places) j (edge, rest) is =
    let later = rounds_walked graph rounds rise k places j rest is in
    let first = rise i k edge later.0 in
    let below = later.1 in
    (first.0, (let above = first.1 in omega arith))

-- a node none of whose edges stays in its round leads to itself by no way
pub off_cycle : (graph : List (List ℕ)) (rounds : List ℕ) (node : ℕ) → RoundsRise graph rounds
    → LeavesRound graph rounds node → OnCycle graph node → ⊥
off_cycle graph rounds node rise leaves (k, places, edge, leads) =
    leaves k edge (elim (cases_lt 0 (round_of rounds node)) [
      | inl is ↦
          (let back = rounds_walked graph rounds rise k places node leads is in
          let here = rise node k edge back.0 in
          let above = back.1 in
          let below = here.1 in
          omega arith)
      | inr none ↦ elim (cases_lt 0 (round_of rounds k)) [
        | inl later ↦ (let here = (rise node k edge later).0 in absurd (omega arith))
        | inr neither ↦ omega arith
      ]
    ])

-- The nodes of a list in turn

pub leaves_more : (rounds : List ℕ) (node : ℕ) (ends : List ℕ) (i : ℕ) → i < length ends
    → round_of rounds (get_or ends i 0) ≢ round_of rounds node
    → ((j : ℕ) → Contains (take i ends) j → round_of rounds j ≢ round_of rounds node)
    → (j : ℕ) → Contains (take (i + 1) ends) j → round_of rounds j ≢ round_of rounds node
leaves_more rounds node ends i below leaves before j there =
    elim (Contains-push_cases (take i ends) (get_or ends i 0) j (rw (take_more ends i 0 below) at there)) [
      | inl old ↦ before j old
      | inr same ↦ subst (λ k. round_of rounds k ≢ round_of rounds node) same leaves
    ]

-- the first of a list, at its place
pub first_here : (P : ℕ → Type 0) (order : List ℕ) (i : ℕ) → i < length order → P (get_or order i 0)
    → All (λ j. ¬ P j) (take i order) → IsFirstOf P order (Some (get_or order i 0))
first_here P order i below holds before = (
  holds,
  (
    take i order,
    drop (suc i) order,
    sym (take-append-drop i order) ∙ ap (λ rest. take i order ++ rest) (drop-cons order i 0 below),
    before,
  ),
)

pub none_more : (P : ℕ → Type 0) (order : List ℕ) (i : ℕ) → i < length order → ¬ P (get_or order i 0)
    → All (λ j. ¬ P j) (take i order) → All (λ j. ¬ P j) (take (i + 1) order)
none_more P order i below fails before =
    rw (take_more order i 0 below) (All-push (λ j. ¬ P j) (take i order) (get_or order i 0) before fails)
