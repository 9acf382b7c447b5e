-- Edges of a graph, one more of them.
use Rattle.std.proofs.Common.{◌≡◌, ◌<◌, ◌⊎◌, inl, inr, ◌∷◌, ◌++◌, [], ℕ, List, length, map, slice_index_or}
use Rattle.std.proofs.Common.{slice_set, refl, sym, subst, Result, Ok, Err, get_or-set_same, get_or-set_other}
use Rattle.std.specs.Prelude.{OnErr}
use Rattle.std.proofs.lemmas.Bool.{cases_eq}
use Rattle.std.proofs.lemmas.List.Elements.{Contains-push, Contains-push_cases, Contains-append_left}
use Rattle.std.proofs.Math.Seq.{map-set_same}
use Rattle.std.proofs.lemmas.List.{map-set}
use Rattle.jm_closure.specs.Graphs.{ends_at, with_edge, HasEdge}
use Rattle.std.proofs.lemmas.List as lists

-- a row that grew by an edge, in the list that shows the rows
pub grown : {A : Type 0} (ends : A → List ℕ) (rows : List A) (from to : ℕ) (d row : A)
    → from < length rows → ends row ≡ ends (slice_index_or rows from d) ++ to ∷ []
    → map ends (slice_set rows from row) ≡ with_edge (map ends rows) from to
grown ends rows from to d row within is =
    rw (map-set ends rows from row, is, lists.get_or-map ends rows from d [] within) refl

-- a row that stayed
pub stayed : {A : Type 0} (ends : A → List ℕ) (rows : List A) (from : ℕ) (d row : A)
    → ends row ≡ ends (slice_index_or rows from d)
    → map ends (slice_set rows from row) ≡ map ends rows
stayed ends rows from d row is = map-set_same ends rows from row d is

-- what holds is due of an error
pub due_anyway : {A E P : Type 0} (r : Result A E) → P → OnErr r P
due_anyway (Ok x) holds = tt
due_anyway (Err e) holds = holds

-- What edges there are with one more

module _ (graph : List (List ℕ)) (from to : ℕ) (within : from < length graph) where
  pub edge_new : HasEdge (with_edge graph from to) from to
  edge_new =
      rw (get_or-set_same graph from (ends_at graph from ++ to ∷ []) [] within)
      (Contains-push (ends_at graph from) to)

  pub edge_kept : (i j : ℕ) → HasEdge graph i j → HasEdge (with_edge graph from to) i j
  edge_kept i j edge = elim (cases_eq i from) [
    | inl same ↦ subst (λ k. HasEdge (with_edge graph from to) k j) (sym same)
        (rw (get_or-set_same graph from (ends_at graph from ++ to ∷ []) [] within)
        (Contains-append_left (ends_at graph from) (to ∷ []) j (subst (λ k. HasEdge graph k j) same edge)))
    | inr other ↦ rw (get_or-set_other graph from i (ends_at graph from ++ to ∷ []) [] other) edge
  ]

  pub edge_cases : (i j : ℕ) → HasEdge (with_edge graph from to) i j → HasEdge graph i j ⊎ ((i ≡ from) × (to ≡ j))
  edge_cases i j edge = elim (cases_eq i from) [
    | inl same ↦
        elim (Contains-push_cases (ends_at graph from) to j
        (rw (same, get_or-set_same graph from (ends_at graph from ++ to ∷ []) [] within) at edge)) [
          | inl old ↦ inl (subst (λ k. HasEdge graph k j) (sym same) old)
          | inr is ↦ inr (same, is)
        ]
    | inr other ↦ inl (rw (get_or-set_other graph from i (ends_at graph from ++ to ∷ []) [] other) at edge)
  ]
