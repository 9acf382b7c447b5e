-- Lists in a strict order: what a sort leaves, what a search finds, and what the two places between
-- which equal elements stand cut out.
use Rattle.std.proofs.Common.{◌≡◌, ℕ, zero, suc, ◌+◌, ◌<◌, ◌≤◌, inl, inr, Bool, true, false, cond, ◌||◌, List}
use Rattle.std.proofs.Common.{[], ◌∷◌, length, map, take, drop, get_or, Result, Ok, Err, AllPairs, Contains}
use Rattle.std.proofs.Common.{IsPermutation, refl, sym, ap, ◌∙◌, subst, arith}
use Rattle.std.proofs.lemmas.Bool.{cases_lt, false≢true}
use Rattle.std.proofs.lemmas.List.{get_or-map, length-map}
use Rattle.std.proofs.lemmas.List.Folds.{list_any_at}
use Rattle.std.proofs.lemmas.List.Kept.{Any-dedup, Contains-from_dedup, IsStrictlySortedBy-dedup}
use Rattle.std.proofs.lemmas.List.Sorted.{Contains-permutation, IsPermutation-sym, searchable_from_sorted}
use Rattle.std.proofs.lemmas.Map.Keys.{Less-from_sorted}
use Rattle.std.specs.Cmp.{eq_by_cmp_equiv, on_total, Equal-is, IsEquivalence, IsTotalOrder}
use Rattle.std.specs.List.{dedup, filter, list_any, AllWithin}
use Rattle.std.specs.List.Sorted.{IsBinarySearchResult, IsPartitionPoint, IsSearchInRange, IsSorted, IsSortedBy}
use Rattle.std.specs.Ordering.{eq_by_cmp, is_eq, is_lt, on, ordering_reverse}
use Rattle.std.specs.Result.{is_ok}
use Rattle.std.specs.declared.cmp.Ordering.{Ordering}
use Rattle.std.specs.declared.cmp.Ordering.TheVariants.{Less, Equal, Greater}
use Rattle.jm_bytes.proofs.Members.{contains_map, filter_none, from_any, from_map}
use Rattle.jm_bytes.proofs.Pairs.{pairs_map}
use Rattle.jm_nodes.specs.Order.{SameElements}

-- a relation and a test of mapped elements
pub pairs_unmapped : {X Y : Type 0} (S : Y → Y → Type 0) (f : X → Y) (xs : List X) → AllPairs S (map f xs)
    → AllPairs (λ x y. S (f x) (f y)) xs
pairs_unmapped S f xs pairs i j d before below =
    rw (get_or-map f xs i d (f d) (omega arith), get_or-map f xs j d (f d) below) at
    (pairs i j (f d) before (omega (arith, length-map xs f)))

pub any_mapped : {X Y : Type 0} (p : Y → Bool) (f : X → Y) (xs : List X) → list_any p (map f xs) ≡ list_any (λ x. p (f x)) xs
any_mapped p f [] = refl
any_mapped p f (x ∷ xs) = ap (λ b. p (f x) || b) (any_mapped p f xs)

module _ {K : Type 0} {R : K → K → Ordering} (o : IsTotalOrder R) where
  pub strict : (x y : K) → R x y ≡ Less → R y x ≡ Less → ⊥
  strict x y less back = false≢true (ap is_lt (sym (o.antisymm x y ∙ ap ordering_reverse back)) ∙ ap is_lt less)

  first_of : {X : Type 0} (xs : List X) {i : ℕ} → i < length xs → X
  first_of [] within = absurd (omega arith)
  first_of (x ∷ xs) within = x

  pub greater : (x y : K) → R x y ≡ Greater → R y x ≡ Less
  greater x y more = o.antisymm y x ∙ ap ordering_reverse more

  -- what rises strictly never falls
  pub never_falls : {X : Type 0} (key : X → K) (xs : List X) → AllPairs (λ x y. R (key x) (key y) ≡ Less) xs
      → IsSortedBy (λ x y. is_lt (R (key x) (key y))) xs
  never_falls key xs rises k d low below =
      let less = rises k (k + 1) d (omega arith) below in
      ap is_lt (o.antisymm (key (get_or xs (k + 1) d)) (key (get_or xs k d)) ∙ ap ordering_reverse less)

  -- a search in such a list finds what is there
  pub searched : {X : Type 0} (view : X → K) (xs : List X) (k : K) (r : Result ℕ ℕ) → IsSearchInRange r (length xs)
      → IsBinarySearchResult (λ x. R (view x) k) xs r → AllPairs (λ x y. R x y ≡ Less) (map view xs) → is_ok r
      ≡ list_any (λ x. is_eq (R x k)) (map view xs)
  searched view xs k (Ok i) within found rises =
      sym (any_mapped (λ x. is_eq (R x k)) view xs ∙ list_any_at (λ x. is_eq (R (view x) k)) xs i (first_of xs within) within
      (ap is_eq (found (first_of xs within))))
  searched {X} view xs k (Err i) within found rises = go (list_any (λ x. is_eq (R (view x) k)) xs) refl
      ∙ sym (any_mapped (λ x. is_eq (R x k)) view xs)
    where
      parted : IsPartitionPoint (λ x. R (view x) k ≡ Less) (λ x. R (view x) k ≡ Greater) xs i
      parted = found (searchable_from_sorted o view xs k (never_falls view xs (pairs_unmapped (λ x y. R x y ≡ Less) view xs rises)))

      go : (b : Bool) → list_any (λ x. is_eq (R (view x) k)) xs ≡ b → false ≡ list_any (λ x. is_eq (R (view x) k)) xs
      go false e = sym e
      go true e =
          let one = from_any (λ x. is_eq (R (view x) k)) xs e in
          let at = one.1.0 in
          let here : is_eq (R (view (get_or xs at one.0)) k) ≡ true = ap (λ x. is_eq (R (view x) k)) one.1.2 ∙ one.2 in
          elim (cases_lt at i) [
            | inl front ↦ absurd (false≢true (sym (ap is_eq (parted.0 at one.0 (omega arith) front)) ∙ here))
            | inr behind ↦ absurd (false≢true (sym (ap is_eq (parted.1 at one.0 behind one.1.1)) ∙ here))
          ]

  -- what a sort leaves, when of equal neighbours all but the first are let go
  module _ {X : Type 0} (view : X → K) {E : X → X → Bool} (ties : (x y : X) → E x y ≡ eq_by_cmp (on view R) x y) where
    pub once_rises : (sorted : List X) → IsSorted (on view R) sorted → AllPairs (λ a b. R a b ≡ Less) (map view (dedup E sorted))
    once_rises sorted up =
        pairs_map (λ a b. R a b ≡ Less) view (dedup E sorted)
        (λ i j d before below. Less-from_sorted (on view R) (dedup E sorted) i j d (IsStrictlySortedBy-dedup (on_total view o) ties
        sorted up) before below)

    pub once_same : ((a b : K) → R a b ≡ Equal → a ≡ b) → (xs sorted : List X) → IsPermutation xs sorted
        → SameElements (map view xs) (map view (dedup E sorted))
    once_same exact xs sorted moved = record {
      has = λ g there.
          let from = from_map view xs g there in
          let kept = Any-dedup (subst IsEquivalence (λ i x y. sym (ties x y) i) (eq_by_cmp_equiv (on_total view o))) sorted from.0
          (Contains-permutation xs sorted from.0 moved from.1) in
          let is : g ≡ view kept.1 = sym from.2 ∙ exact (view from.0) (view kept.1) ((Equal-is (R (view from.0) (view kept.1))).0
          (sym (ties from.0 kept.1) ∙ kept.4)) in
          subst (Contains (map view (dedup E sorted))) (sym is) (contains_map view (dedup E sorted) kept.1 (kept.0, kept.2, kept.3));
      only = λ g there.
          let from = from_map view (dedup E sorted) g there in
          subst (Contains (map view xs)) from.2 (contains_map view xs from.0 (Contains-permutation sorted xs from.0
          (IsPermutation-sym xs sorted moved) (Contains-from_dedup E sorted from.0 from.1)));
    }

-- The elements that pass stand together

-- what stands in front and doesn't pass changes nothing
pub filter_behind : {X : Type 0} (p : X → Bool) (xs : List X) (i : ℕ) → i ≤ length xs → AllWithin (λ x. p x ≡ false) xs 0 i
    → filter p (drop i xs) ≡ filter p xs
filter_behind p xs zero within fails = refl
filter_behind p [] (suc i) within fails = absurd (omega arith)
filter_behind {X} p (x ∷ xs) (suc i) within fails = go (p x) (fails 0 x (omega arith) (omega arith))
    (filter_behind p xs i (omega arith) (λ k d low high. fails (suc k) d (omega arith) (omega arith)))
  where
    go : (b : Bool) → b ≡ false → filter p (drop i xs) ≡ filter p xs → filter p (drop i xs) ≡ cond b (x ∷ filter p xs) (filter p xs)
    go false e rest = rest
    go true e rest = absurd (false≢true (sym e))

-- all that passes stands in front of a place, and nothing else does
pub filter_front : {X : Type 0} (p : X → Bool) (xs : List X) (i : ℕ) → i ≤ length xs → IsPartitionPoint (λ x. p x ≡ true) (λ x. p x
    ≡ false) xs i → filter p xs ≡ take i xs
filter_front p xs zero within parted = filter_none p xs (λ k d below. parted.1 k d (omega arith) below)
filter_front p [] (suc i) within parted = absurd (omega arith)
filter_front p (x ∷ xs) (suc i) within parted =
    ap (λ b. cond b (x ∷ filter p xs) (filter p xs)) (parted.0 0 x (omega arith) (omega arith))
    ∙ ap (λ ys. x ∷ ys) (filter_front p xs i (omega arith) (
      λ k d low high. parted.0 (suc k) d (omega arith) (omega arith),
      λ k d low high. parted.1 (suc k) d (omega arith) (omega arith),
    ))
