-- What a sort leaves, when of equal neighbours all but the first are let go.
use Rattle.std.proofs.Common.{◌≡◌, Bool, List, map, AllPairs, Contains, IsPermutation, ℕ, sym, ◌∙◌, subst}
use Rattle.std.proofs.lemmas.List.Kept.{Any-dedup, Contains-from_dedup, IsStrictlySortedBy-dedup}
use Rattle.std.proofs.lemmas.List.Sorted.{Contains-permutation, IsPermutation-sym}
use Rattle.std.proofs.lemmas.Map.Keys.{Less-from_sorted}
use Rattle.std.proofs.lemmas.Map.Lookups.{exact_bytes}
use Rattle.std.specs.Cmp.{eq_by_cmp_equiv, on_total, Equal-is, IsEquivalence, IsTotalOrder}
use Rattle.std.specs.Cmp.Lexicographic.{nat_list_cmp_total, slice_cmp}
use Rattle.std.specs.List.{dedup}
use Rattle.std.specs.List.Sorted.{IsSorted}
use Rattle.std.specs.Ordering.{eq_by_cmp, nat_cmp, on}
use Rattle.std.specs.declared.cmp.Ordering.{Ordering}
use Rattle.std.specs.declared.cmp.Ordering.TheVariants.{Less, Equal}
use Rattle.jm_bytes.proofs.Members.{contains_map, from_map}
use Rattle.jm_bytes.proofs.Pairs.{pairs_map}
use Rattle.jm_form.specs.Rising.{rising}
use Rattle.jm_form.proofs.RisingLaws.{rising_only}

module _ {K : Type 0} {R : K → K → Ordering} (o : IsTotalOrder R) {X : Type 0} (view : X → K) {E : X → X → Bool}
    (ties : (x y : X) → E x y ≡ eq_by_cmp (on view R) x y) where
  pub once_rises : (sorted : List X) → IsSorted (on view R) sorted → AllPairs (λ a b. R a b ≡ Less) (map view (dedup E sorted))
  once_rises sorted up =
      pairs_map (λ a b. R a b ≡ Less) view (dedup E sorted)
      (λ i j d before below. Less-from_sorted (on view R) (dedup E sorted) i j d (IsStrictlySortedBy-dedup (on_total view o) ties
      sorted up) before below)

  module _ (xs sorted : List X) (moved : IsPermutation xs sorted) where
    pub once_has : ((a b : K) → R a b ≡ Equal → a ≡ b) → (g : K) → Contains (map view xs) g → Contains (map view (dedup E sorted)) g
    once_has exact g there =
        let from = from_map view xs g there in
        let kept = Any-dedup (subst IsEquivalence (λ i x y. sym (ties x y) i) (eq_by_cmp_equiv (on_total view o))) sorted from.0
        (Contains-permutation xs sorted from.0 moved from.1) in
        let is : g ≡ view kept.1 = sym from.2 ∙ exact (view from.0) (view kept.1) ((Equal-is (R (view from.0) (view kept.1))).0
        (sym (ties from.0 kept.1) ∙ kept.4)) in
        subst (Contains (map view (dedup E sorted))) (sym is) (contains_map view (dedup E sorted) kept.1 (kept.0, kept.2, kept.3))

    pub once_only : (g : K) → Contains (map view (dedup E sorted)) g → Contains (map view xs) g
    once_only g there =
        let from = from_map view (dedup E sorted) g there in
        subst (Contains (map view xs)) from.2 (contains_map view xs from.0 (Contains-permutation sorted xs from.0
        (IsPermutation-sym xs sorted moved) (Contains-from_dedup E sorted from.0 from.1)))

-- texts that were sorted, each once, are those texts, rising
pub sorted_once : {X : Type 0} (view : X → List ℕ) {E : X → X → Bool} (ties : (x y : X) → E x y
    ≡ eq_by_cmp (on view (slice_cmp nat_cmp)) x y) (xs sorted : List X) → IsPermutation xs sorted
    → IsSorted (on view (slice_cmp nat_cmp)) sorted → map view (dedup E sorted) ≡ rising (map view xs)
sorted_once view {E} ties xs sorted moved up =
    rising_only (map view xs) (map view (dedup E sorted)) (once_rises nat_list_cmp_total view ties sorted up)
    (once_has nat_list_cmp_total view ties xs sorted moved exact_bytes) (once_only nat_list_cmp_total view ties xs sorted moved)
