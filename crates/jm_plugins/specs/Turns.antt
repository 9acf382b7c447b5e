-- In which order the pairs of a pool come by their ranks (words of the proof).
use Rattle.std.specs.Prelude.{ℕ, ◌≡◌, ◌==◌, ◌≤◌, Bool, List, Some, length, map, filter}
use Rattle.std.specs.Prelude.{slice_get, IsPermutation}
use Rattle.std.specs.List.{range_with_len, AllZip, AllPairs}
use Rattle.jm_plugins.specs.declared.order.Turn.{Turn}
use Rattle.jm_plugins.specs.Steps.{rank}

-- the turn of a pair
abbrev pub IsTurn : List (List ℕ → Bool) → List (List ℕ × List ℕ) → List ℕ × List ℕ → Turn → Type 0
IsTurn tests pairs pair turn =
    (slice_get pairs turn.place ≡ Some pair) × (turn.rank ≡ rank tests pair.0)

-- the turns of all pairs, in their order
pub record AreTurns (tests : List (List ℕ → Bool)) (pairs : List (List ℕ × List ℕ))
    (turns : List Turn) : Type 0 where
  pub places : map (λ turn. turn.place) turns ≡ range_with_len 0 (length pairs)
  pub ranks : AllZip (IsTurn tests pairs) pairs turns

-- the same turns by rank, those of one rank in their order
pub record IsByRank (turns sorted : List Turn) : Type 0 where
  pub same : IsPermutation turns sorted
  pub rises : AllPairs (λ one later. one.rank ≤ later.rank) sorted
  pub stays : (number : ℕ)
      → filter (λ turn. turn.rank == number) sorted ≡ filter (λ turn. turn.rank == number) turns
