-- The pairs at the places of sorted turns are the pairs test by test.
use Rattle.std.proofs.Common.{◌≡◌, ◌==◌, ◌&&◌, not, ℕ, ◌+◌, ◌<◌, ◌≤◌, List, [], ◌∷◌, ◌++◌, take, get_or, Bool, rules}
use Rattle.std.proofs.Common.{true, false, cond, Option, Some, None, All, length, map}
use Rattle.std.proofs.Common.{slice_get, refl, sym, ap, ◌∙◌, arith}
use Rattle.std.specs.List.Sorted.{IsStableByKey}
use Rattle.std.specs.Ordering.{nat_cmp, is_lt}
use Rattle.std.proofs.lemmas.List.{map-append, take_more}
use Rattle.std.proofs.lemmas.List.Elements.{All-head, All-tail, All-nil, All-cons, All-contains}
use Rattle.std.proofs.lemmas.Bool.Decides.{nat_tests}
use Rattle.std.proofs.lemmas.List.Sorted.{IsPermutation-map, All-permutation}
use Rattle.std.specs.List.{AllZip, filter, filter_map, cons_option, range_with_len}
use Rattle.jm_bytes.proofs.Choice.{same_some}
use Rattle.jm_bytes.proofs.Pairs.{pairs_among, pairs_filter_map}
use Rattle.jm_pool.specs.Pairs.{IsOrderOf, items_at}
use Rattle.jm_plugins.specs.declared.order.Turn.{Turn}
use Rattle.jm_plugins.specs.Matching.{ranked}
use Rattle.jm_plugins.specs.Steps.{rank}
use Rattle.jm_plugins.specs.Turns.{IsTurn, AreTurns, IsByRank}
use Rattle.jm_halves.proofs.Zipped.{zip_weaker}
use Rattle.jm_plugins.proofs.Beside.{beside_all}
use Rattle.jm_plugins.proofs.OrderLaws.{filter_alike, ranked_is}

-- turns of places one after another have these places
pub places_are : (places : List ℕ) (turns : List Turn) → AllZip (λ place turn. turn.place ≡ place) places turns
    → map (λ turn. turn.place) turns ≡ places
places_are [] [] zipped = refl
places_are [] (turn ∷ turns) zipped = absurd zipped
places_are (place ∷ places) [] zipped = absurd zipped
places_are (place ∷ places) (turn ∷ turns) zipped = ap (λ k. k ∷ map (λ t. t.place) turns) zipped.0
    ∙ ap (λ l. place ∷ l) (places_are places turns zipped.1)

module _ (tests : List (List ℕ → Bool)) (pairs : List (List ℕ × List ℕ)) where
  -- the rank of a turn is that of the pair at its place
  abbrev Ranks : Turn → Type 0
  Ranks turn = (pair : List ℕ × List ℕ) → slice_get pairs turn.place ≡ Some pair → turn.rank ≡ rank tests pair.0

  items_are : (turns : List Turn) → items_at (map (λ turn. turn.place) turns) pairs ≡ filter_map (λ turn. slice_get pairs turn.place) turns
  items_are [] = refl
  items_are (turn ∷ turns) = ap (cons_option (slice_get pairs turn.place)) (items_are turns)

  told : (rest : List (List ℕ × List ℕ)) (turns : List Turn) → AllZip (IsTurn tests pairs) rest turns
      → filter_map (λ turn. slice_get pairs turn.place) turns ≡ rest
  told [] [] zipped = refl
  told [] (turn ∷ turns) zipped = absurd zipped
  told (pair ∷ rest) [] zipped = absurd zipped
  told (pair ∷ rest) (turn ∷ turns) zipped =
      ap (λ o. cons_option o (filter_map (λ t. slice_get pairs t.place) turns)) zipped.0.0 ∙ ap (λ l. pair ∷ l) (told rest turns zipped.1)

  each_ranked : (rest : List (List ℕ × List ℕ)) (turns : List Turn) → AllZip (IsTurn tests pairs) rest turns → All Ranks turns
  each_ranked [] [] zipped = search (rules, All-nil)
  each_ranked [] (turn ∷ turns) zipped = search (rules)
  each_ranked (pair ∷ rest) [] zipped = search (rules)
  each_ranked (pair ∷ rest) (turn ∷ turns) zipped = search (rules, All-cons, same_some, (each_ranked rest turns zipped.1))

  -- the pairs of a rank are those at the turns of the rank
  of_rank : (i : ℕ) (turns : List Turn) → All Ranks turns → filter (λ pair. rank tests pair.0 == i)
      (filter_map (λ turn. slice_get pairs turn.place) turns) ≡ filter_map (λ turn. slice_get pairs turn.place)
      (filter (λ turn. turn.rank == i) turns)
  of_rank i [] all = refl
  of_rank i (turn ∷ turns) all = go (slice_get pairs turn.place) refl (turn.rank == i) refl
      (of_rank i turns (All-tail Ranks turn turns all))
    where
      items : List Turn → List (List ℕ × List ℕ)
      items ts = filter_map (λ t. slice_get pairs t.place) ts

      test : List ℕ × List ℕ → Bool
      test pair = rank tests pair.0 == i

      later : List Turn
      later = filter (λ t. t.rank == i) turns

      go : (o : Option (List ℕ × List ℕ)) → slice_get pairs turn.place ≡ o → (b : Bool) → (turn.rank == i) ≡ b
          → filter test (items turns) ≡ items later → filter test (cons_option (slice_get pairs turn.place) (items turns))
          ≡ items (cond (turn.rank == i) (turn ∷ later) later)
      go None none true here rest = rw (none, here) (rest ∙ sym (ap (λ o. cons_option o (items later)) none))
      go None none false here rest = rw (none, here) rest
      go (Some pair) there b here rest =
          let own : turn.rank ≡ rank tests pair.0 = All-head Ranks turn turns all pair there in
          let passes : test pair ≡ b = ap (λ (k : ℕ). k == i) (sym own) ∙ here in
          ap (λ o. filter test (cons_option o (items turns))) there
          ∙ ap (λ c. cond c (pair ∷ filter test (items turns)) (filter test (items turns))) passes ∙ taken b rest
          ∙ sym (ap (λ c. items (cond c (turn ∷ later) later)) here)
        where
          taken : (c : Bool) → filter test (items turns) ≡ items later → cond c (pair ∷ filter test (items turns))
              (filter test (items turns)) ≡ items (cond c (turn ∷ later) later)
          taken true same = ap (λ l. pair ∷ l) same ∙ sym (ap (λ o. cons_option o (items later)) there)
          taken false same = same

  pub in_order : (turns sorted : List Turn) → AreTurns tests pairs turns → IsByRank turns sorted
      → items_at (map (λ turn. turn.place) sorted) pairs ≡ ranked tests pairs
  in_order turns sorted are by =
      let before = each_ranked pairs turns are.ranks in
      let after = All-permutation Ranks turns sorted by.same before in
      let rises = pairs_filter_map (λ one later. (one.rank ≤ later.rank) × Ranks one × Ranks later) (λ one later. rank tests
      one.0 ≤ rank tests later.0) (λ turn. slice_get pairs turn.place)
      (λ one later holds a b first second. rw (sym (holds.1 a first), sym (holds.2 b second)) holds.0) sorted
      (pairs_among (λ one later. one.rank ≤ later.rank) (λ one later. (one.rank ≤ later.rank) × Ranks one × Ranks later) sorted
      (λ one later there behind up. (up, All-contains Ranks sorted one after there, All-contains Ranks sorted later after behind))
      by.rises) in
      let same = λ (i : ℕ). of_rank i sorted after ∙ ap (filter_map (λ turn. slice_get pairs turn.place)) (by.stays i)
      ∙ sym (of_rank i turns before) ∙ ap (filter (λ pair. rank tests pair.0 == i)) (told pairs turns are.ranks) in
      items_are sorted ∙ ranked_is tests (filter_map (λ turn. slice_get pairs turn.place) sorted) pairs rises same

  -- the places of sorted turns are all places in another order
  pub all_in_order : (turns sorted : List Turn) → AreTurns tests pairs turns → IsByRank turns sorted
      → IsOrderOf (length pairs) (map (λ turn. turn.place) sorted)
  all_in_order turns sorted are by = search (rules, IsPermutation-map)

-- Sorted by rank

tied : (a b : ℕ) → (b == a) ≡ (not (is_lt (nat_cmp a b)) && not (is_lt (nat_cmp b a)))
tied a b = grind (arith, nat_tests)

pub of_number : (turns sorted : List Turn) (number : ℕ) → IsStableByKey (λ turn. turn.rank) nat_cmp turns sorted
    → filter (λ turn. turn.rank == number) sorted ≡ filter (λ turn. turn.rank == number) turns
of_number turns sorted number stable =
    let one : Turn = record { rank = number; place = 0 } in
    let test = λ (turn : Turn). not (is_lt (nat_cmp number turn.rank)) && not (is_lt (nat_cmp turn.rank number)) in
    filter_alike (λ turn. turn.rank == number) test (λ turn. tied number turn.rank) sorted ∙ stable one
    ∙ sym (filter_alike (λ turn. turn.rank == number) test (λ turn. tied number turn.rank) turns)

-- the places of turns, with one turn more
pub places_more : (turns : List Turn) (i : ℕ) (places : List ℕ) (d : Turn) → i < length turns → places
    ≡ map (λ turn. turn.place) (take i turns) → places ++ (get_or turns i d).place ∷ [] ≡ map (λ turn. turn.place) (take (i + 1) turns)
places_more turns i places d below so_far =
    ap (λ l. l ++ (get_or turns i d).place ∷ []) so_far ∙ sym (map-append (λ turn. turn.place) (take i turns) (get_or turns i d
    ∷ [])) ∙ sym (ap (map (λ turn. turn.place)) (take_more turns i d below))

-- what is said of the turn of each place
abbrev pub IsTurnAt : List (List ℕ → Bool) → List (List ℕ × List ℕ) → ℕ → Turn → Type 0
IsTurnAt tests pairs place turn = (turn.place ≡ place) × ((pair : List ℕ × List ℕ) → slice_get pairs place ≡ Some pair
    → turn.rank ≡ rank tests pair.0)

pub turns_are : (tests : List (List ℕ → Bool)) (pairs : List (List ℕ × List ℕ)) (turns : List Turn)
    → AllZip (IsTurnAt tests pairs) (range_with_len 0 (length pairs)) turns → AreTurns tests pairs turns
turns_are tests pairs turns beside =
    let there = zip_weaker (IsTurnAt tests pairs) (λ place turn. (pair : List ℕ × List ℕ) → slice_get pairs place ≡ Some pair
    → IsTurn tests pairs pair turn) (range_with_len 0 (length pairs)) turns (λ place turn says pair is.
    (ap (slice_get pairs) says.0 ∙ is, says.1 pair is)) beside in
    record {
      places = places_are (range_with_len 0 (length pairs)) turns (zip_weaker (IsTurnAt tests pairs) (λ place turn. turn.place
          ≡ place) (range_with_len 0 (length pairs)) turns (λ place turn says. says.0) beside);
      ranks = beside_all (IsTurn tests pairs) pairs turns there;
    }
