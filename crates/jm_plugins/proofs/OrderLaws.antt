-- Pairs sorted by the number of the first test that they pass are the pairs test by test.
use Rattle.std.proofs.Common.{◌≡◌, ◌==◌, ℕ, suc, ◌+◌, ◌≤◌, List, [], ◌∷◌, ◌++◌, Bool, true, false, cond, not}
use Rattle.std.proofs.Common.{All, AllPairs, get_or, refl, sym, ap, ◌∙◌, arith}
use Rattle.std.proofs.lemmas.Bool.Decides.{nat_tests}
use Rattle.std.proofs.lemmas.List.Elements.{All-head, All-tail, All-nil, All-cons}
use Rattle.std.proofs.lemmas.List.Kept.{AllPairs-cons}
use Rattle.std.specs.List.{filter}
use Rattle.jm_bytes.proofs.Pairs.{pairs_none, pairs_head, pairs_tail, pairs_weaker}
use Rattle.jm_bytes.proofs.SameOrder.{filter_same}
use Rattle.jm_plugins.specs.Matching.{ranked}
use Rattle.jm_plugins.specs.Steps.{rank}

-- Filters

module _ {X : Type 0} where
  filter_all : (p : X → Bool) → ((x : X) → p x ≡ true) → (xs : List X) → filter p xs ≡ xs
  filter_all p all [] = refl
  filter_all p all (x ∷ xs) = rw (all x) (ap (λ l. x ∷ l) (filter_all p all xs))

  filter_none : (p : X → Bool) (xs : List X) → All (λ x. p x ≡ false) xs → filter p xs ≡ []
  filter_none p [] none = refl
  filter_none p (x ∷ xs) none = rw (All-head (λ z. p z ≡ false) x xs none) (filter_none p xs (All-tail (λ z. p z ≡ false) x xs none))

  filter_each : (p : X → Bool) (xs : List X) → All (λ x. p x ≡ true) xs → filter p xs ≡ xs
  filter_each p [] each = refl
  filter_each p (x ∷ xs) each = rw (All-head (λ z. p z ≡ true) x xs each)
      (ap (λ l. x ∷ l) (filter_each p xs (All-tail (λ z. p z ≡ true) x xs each)))

  -- tests with the same answers
  pub filter_alike : (p q : X → Bool) → ((x : X) → p x ≡ q x) → (xs : List X) → filter p xs ≡ filter q xs
  filter_alike p q same xs = filter_same p q xs (λ k d below. same _)

  -- a test of what passed another one
  filter_both : (p q r : X → Bool) → ((x : X) → cond (q x) (p x) false ≡ r x) → (xs : List X) → filter p (filter q xs) ≡ filter r xs
  filter_both p q r both [] = refl
  filter_both p q r both (x ∷ xs) = go (q x) refl (filter_both p q r both xs)
    where
      go : (b : Bool) → q x ≡ b → filter p (filter q xs) ≡ filter r xs → filter p (cond b (x ∷ filter q xs) (filter q xs))
          ≡ cond (r x) (x ∷ filter r xs) (filter r xs)
      go true is rest = rw (sym (both x), is, rest) refl
      go false is rest = rw (sym (both x), is, rest) refl

  -- where nothing that passes comes after what doesn't, the list is what passes and then the rest
  parted : (p q : X → Bool) → ((x : X) → q x ≡ not (p x)) → (xs : List X) → AllPairs (λ x y. p y ≡ true → p x ≡ true) xs → xs
      ≡ filter p xs ++ filter q xs
  parted p q other [] falls = refl
  parted p q other (x ∷ xs) falls = go (p x) refl (parted p q other xs (pairs_tail (λ a b. p b ≡ true → p a ≡ true) x xs falls))
    where
      none : p x ≡ false → All (λ y. p y ≡ false) xs
      none is k d below = false_there (p (get_or xs k d)) refl (pairs_head (λ a b. p b ≡ true → p a ≡ true) x xs falls k d below)
        where
          false_there : (b : Bool) → p (get_or xs k d) ≡ b → (p (get_or xs k d) ≡ true → p x ≡ true) → p (get_or xs k d) ≡ false
          false_there true here up = let no = up here in cc
          false_there false here up = here

      go : (b : Bool) → p x ≡ b → xs ≡ filter p xs ++ filter q xs → x ∷ xs ≡ cond (p x) (x ∷ filter p xs) (filter p xs)
          ++ cond (q x) (x ∷ filter q xs) (filter q xs)
      go true is rest = rw (other x, is) (ap (λ l. x ∷ l) rest)
      go false is rest =
          let mine = filter_none p xs (none is) in
          let others = filter_each q xs (λ k d below. other (get_or xs k d) ∙ ap not (none is k d below)) in
          rw (other x, is, mine, others) refl

  -- a relation among what passes
  rises_among : (R S : X → X → Type 0) (q : X → Bool) → ((x y : X) → q x ≡ true → q y ≡ true → R x y → S x y) → (xs : List X)
      → AllPairs R xs → AllPairs S (filter q xs)
  rises_among R S q among [] pairs = pairs_none S
  rises_among R S q among (x ∷ xs) pairs = go (q x) refl (rises_among R S q among xs (pairs_tail R x xs pairs))
    where
      head : (ys : List X) → q x ≡ true → All (R x) ys → All (S x) (filter q ys)
      head [] is all = All-nil (S x)
      head (y ∷ ys) is all = there (q y) refl (head ys is (All-tail (R x) y ys all))
        where
          there : (b : Bool) → q y ≡ b → All (S x) (filter q ys) → All (S x) (cond b (y ∷ filter q ys) (filter q ys))
          there true here rest = All-cons (S x) y (filter q ys) (among x y is here (All-head (R x) y ys all)) rest
          there false here rest = rest

      go : (b : Bool) → q x ≡ b → AllPairs S (filter q xs) → AllPairs S (cond b (x ∷ filter q xs) (filter q xs))
      go true is rest = AllPairs-cons S x (filter q xs) (head xs is (pairs_head R x xs pairs)) rest
      go false is rest = rest

-- Ranks

pub rank_first : (p : List ℕ → Bool) (ps : List (List ℕ → Bool)) (name : List ℕ) → p name ≡ true → rank (p ∷ ps) name ≡ 0
rank_first p ps name is = rw is refl

pub rank_later : (p : List ℕ → Bool) (ps : List (List ℕ → Bool)) (name : List ℕ) → p name ≡ false → rank (p ∷ ps) name ≡ rank ps name + 1
rank_later p ps name is = rw is (omega arith)

first_test : (p : List ℕ → Bool) (ps : List (List ℕ → Bool)) (name : List ℕ) → p name ≡ (rank (p ∷ ps) name == 0)
first_test p ps name = go (p name) refl
  where
    go : (b : Bool) → p name ≡ b → p name ≡ (rank (p ∷ ps) name == 0)
    go true is = rw (rank_first p ps name is, is) refl
    go false is = rw (rank_later p ps name is, is) (grind (arith, nat_tests))

later_test : (p : List ℕ → Bool) (ps : List (List ℕ → Bool)) (i : ℕ) (name : List ℕ) → cond (not (p name)) (rank ps name == i) false
    ≡ (rank (p ∷ ps) name == suc i)
later_test p ps i name = go (p name) refl
  where
    go : (b : Bool) → p name ≡ b → cond (not (p name)) (rank ps name == i) false ≡ (rank (p ∷ ps) name == suc i)
    go true is = rw (rank_first p ps name is, is) (grind (arith, nat_tests))
    go false is = rw (rank_later p ps name is, is) (grind (arith, nat_tests))

above : (p : List ℕ → Bool) (ps : List (List ℕ → Bool)) (one other : List ℕ) → rank (p ∷ ps) one ≤ rank (p ∷ ps) other → p other
    ≡ true → p one ≡ true
above p ps one other up is = go (p one) refl
  where
    go : (b : Bool) → p one ≡ b → p one ≡ true
    go true here = here
    go false here =
        let none = rank_first p ps other is in
        let some = rank_later p ps one here in
        absurd (omega (arith, up, none, some))

among : (p : List ℕ → Bool) (ps : List (List ℕ → Bool)) (one other : List ℕ) → not (p one) ≡ true → not (p other) ≡ true
    → rank (p ∷ ps) one ≤ rank (p ∷ ps) other → rank ps one ≤ rank ps other
among p ps one other here there up =
    let first = rank_later p ps one (turned (p one) here) in
    let second = rank_later p ps other (turned (p other) there) in
    omega (arith, up, first, second)
  where
    turned : (b : Bool) → not b ≡ true → b ≡ false
    turned true e = cc
    turned false e = refl

-- pairs whose ranks don't fall, those of each rank as they stand in a list, are that list test by
-- test
pub ranked_is : (tests : List (List ℕ → Bool)) (sorted pairs : List (List ℕ × List ℕ)) → AllPairs (λ one later. rank tests one.0
    ≤ rank tests later.0) sorted
    → ((i : ℕ) → filter (λ pair. rank tests pair.0 == i) sorted ≡ filter (λ pair. rank tests pair.0 == i) pairs) → sorted
    ≡ ranked tests pairs
ranked_is [] sorted pairs rises same = sym (filter_all (λ pair. true) (λ pair. refl) sorted) ∙ same 0
    ∙ filter_all (λ pair. true) (λ pair. refl) pairs
ranked_is (p ∷ ps) sorted pairs rises same =
    let here = λ (pair : List ℕ × List ℕ). p pair.0 in
    let there = λ (pair : List ℕ × List ℕ). not (p pair.0) in
    let zeroth = λ (pair : List ℕ × List ℕ). rank (p ∷ ps) pair.0 == 0 in
    let whole = parted here there (λ pair. refl) sorted (pairs_weaker (λ one later. rank (p ∷ ps) one.0 ≤ rank (p ∷ ps) later.0)
    (λ one later. p later.0 ≡ true → p one.0 ≡ true) (λ one later up. above p ps one.0 later.0 up) sorted rises) in
    let front : filter here sorted ≡ filter here pairs =
    filter_alike here zeroth (λ pair. first_test p ps pair.0) sorted ∙ same 0
    ∙ sym (filter_alike here zeroth (λ pair. first_test p ps pair.0) pairs) in
    let left = rises_among (λ one later. rank (p ∷ ps) one.0 ≤ rank (p ∷ ps) later.0) (λ one later. rank ps one.0 ≤ rank ps later.0)
    there (λ one later. among p ps one.0 later.0) sorted rises in
    let kept = λ (i : ℕ). filter_both (λ pair. rank ps pair.0 == i) there (λ pair. rank (p ∷ ps) pair.0 == suc i)
    (λ pair. later_test p ps i pair.0) sorted ∙ same (suc i)
    ∙ sym (filter_both (λ pair. rank ps pair.0 == i) there (λ pair. rank (p ∷ ps) pair.0 == suc i) (λ pair. later_test p ps i
    pair.0) pairs) in
    let back = ranked_is ps (filter there sorted) (filter there pairs) left kept in
    whole ∙ ap (λ l. l ++ filter there sorted) front ∙ ap (λ l. filter here pairs ++ l) back
