-- A list whose items are taken out one by one, by places that have each place once.
use Rattle.std.proofs.Common.{◌≡◌, ℕ, zero, suc, ◌+◌, ◌<◌, false, cond, nat_eq, List, [], ◌∷◌, ◌++◌, Option}
use Rattle.std.proofs.Common.{Some, None, All, length, drop, set, get_or, slice_get, map, refl, sym, ap, ◌∙◌}
use Rattle.std.proofs.Common.{subst, arith, append_assoc, option_map, IsPermutation}
use Rattle.std.proofs.lemmas.Bool.Decides.{nat_tests}
use Rattle.std.proofs.lemmas.Cmp.{nat_eq_equiv, nat_list_eq_equiv}
use Rattle.std.proofs.lemmas.List.{drop_more, drop_all, map-append}
use Rattle.std.proofs.lemmas.List.FromFn.{length-range_with_len, get_or-range_with_len}
use Rattle.std.proofs.lemmas.List.Sorted.{IsPermutation-map, All-permutation}
use Rattle.std.proofs.lemmas.Map.Keys.{IsDistinct-head, IsDistinct-tail, IsDistinct-IsPermutation}
use Rattle.std.proofs.lemmas.Option.{slice_get-get_or, slice_get-map}
use Rattle.std.specs.List.{range_with_len, cons_option, IsDistinct, AllByRecursion}
use Rattle.std.specs.Str.{bytes_eq}
use Rattle.jm_pool.specs.Pairs.{names_of, bytes_of, items_at, IsOrderOf}

-- The places

later : (a b n : ℕ) → a < b → AllByRecursion (λ other. nat_eq a other ≡ false) (range_with_len b n)
later a b zero below = tt
later a b (suc n) below = (grind (arith, nat_tests), later a (b + 1) n (omega arith))

range_once : (a n : ℕ) → IsDistinct nat_eq (range_with_len a n)
unfolding IsDistinct
range_once a zero = tt
range_once a (suc n) = (later a (a + 1) n (omega arith), range_once (a + 1) n)

pub order_once : (n : ℕ) (order : List ℕ) → IsOrderOf n order → IsDistinct nat_eq order
order_once n order is = IsDistinct-IsPermutation nat_eq nat_eq_equiv.symm (range_with_len 0 n) order is (range_once 0 n)

range_within : (n : ℕ) → All (λ place. place < n) (range_with_len 0 n)
range_within n k d below =
    let long = length-range_with_len 0 n in
    let place = get_or-range_with_len 0 n k d (omega arith) in
    omega arith

pub order_within : (n : ℕ) (order : List ℕ) → IsOrderOf n order → All (λ place. place < n) order
order_within n order is = All-permutation (λ place. place < n) (range_with_len 0 n) order is (range_within n)

-- the places that are left are each there once
pub once_next : (order : List ℕ) (n : ℕ) → n < length order → IsDistinct nat_eq (drop n order) → IsDistinct nat_eq (drop (n + 1) order)
once_next order n below once = IsDistinct-tail nat_eq (get_or order n 0) (drop (n + 1) order) (subst (IsDistinct nat_eq)
    (drop_more order n 0 below) once)

-- The items at them

module _ {X : Type 0} where
  -- an item that is taken out stands at no other place
  slice_get_other : (items : List X) (place other : ℕ) (put : X) → nat_eq place other ≡ false
      → slice_get (set items place put) other ≡ slice_get items other
  slice_get_other [] place other put differ = refl
  slice_get_other (x ∷ items) zero zero put differ = cc
  slice_get_other (x ∷ items) zero (suc other) put differ = refl
  slice_get_other (x ∷ items) (suc place) zero put differ = refl
  slice_get_other (x ∷ items) (suc place) (suc other) put differ = slice_get_other items place other put (grind (arith, nat_tests))

  items_at_others : (places : List ℕ) (items : List X) (place : ℕ) (put : X) → AllByRecursion (λ other. nat_eq place other ≡ false)
      places → items_at places (set items place put) ≡ items_at places items
  items_at_others [] items place put differ = refl
  items_at_others (other ∷ places) items place put differ =
      ap (λ o. cons_option o (items_at places (set items place put))) (slice_get_other items place other put differ.0)
      ∙ ap (cons_option (slice_get items other)) (items_at_others places items place put differ.1)

  -- one item more was taken out
  pub order_next : (order : List ℕ) (n place : ℕ) (items all front : List X) (item put : X) → n < length order → get_or order n 0
      ≡ place → slice_get items place ≡ Some item → IsDistinct nat_eq (drop n order) → all ≡ front ++ items_at (drop n order) items
      → all ≡ (front ++ item ∷ []) ++ items_at (drop (n + 1) order) (set items place put)
  order_next order n place items all front item put below is there once so_far =
      let shape : drop n order ≡ place ∷ drop (n + 1) order = drop_more order n 0 below ∙ ap (λ k. k ∷ drop (n + 1) order) is in
      let differ = IsDistinct-head nat_eq place (drop (n + 1) order) (subst (IsDistinct nat_eq) shape once) in
      let one : items_at (drop n order) items ≡ item ∷ items_at (drop (n + 1) order) items = ap (λ l. items_at l items) shape
      ∙ ap (λ o. cons_option o (items_at (drop (n + 1) order) items)) there in
      let rest = items_at_others (drop (n + 1) order) items place put differ in
      so_far ∙ ap (λ l. front ++ l) one ∙ ap (λ l. front ++ item ∷ l) (sym rest)
      ∙ sym (append_assoc front (item ∷ []) (items_at (drop (n + 1) order) (set items place put)))

  -- the items at all places, in their own order and in another one
  items_at_is : (places : List ℕ) (items : List X) (d : X) → All (λ place. place < length items) places → items_at places items
      ≡ map (λ place. get_or items place d) places
  items_at_is [] items d within = refl
  items_at_is (place ∷ places) items d within =
      ap (λ o. cons_option o (items_at places items)) (slice_get-get_or items place d (within 0 0 (omega arith)))
      ∙ ap (λ l. get_or items place d ∷ l) (items_at_is places items d (λ k e below. within (suc k) e (omega arith)))

  ranged : (items : List X) (d : X) (a n : ℕ) → a + n ≡ length items → map (λ place. get_or items place d) (range_with_len a n)
      ≡ drop a items
  ranged items d a zero is = sym (drop_all a items (omega arith))
  ranged items d a (suc n) is = ap (λ l. get_or items a d ∷ l) (ranged items d (a + 1) n (omega arith))
      ∙ sym (drop_more items a d (omega arith))

  permuted : (order : List ℕ) (items : List X) (d : X) → IsOrderOf (length items) order → IsPermutation items (items_at order items)
  permuted order items d is =
      let moved = IsPermutation-map (λ place. get_or items place d) (range_with_len 0 (length items)) order is in
      rw (items_at_is order items d (order_within (length items) order is))
      (subst (λ l. IsPermutation l (map (λ place. get_or items place d) order)) (ranged items d 0 (length items) (omega arith)) moved)

  mapped_option : {Y : Type 0} (f : X → Y) (o : Option X) (items : List X) → map f (cons_option o items)
      ≡ cons_option (option_map f o) (map f items)
  mapped_option f None items = refl
  mapped_option f (Some x) items = refl

  pub items_at-map : {Y : Type 0} (f : X → Y) (places : List ℕ) (items : List X) → map f (items_at places items)
      ≡ items_at places (map f items)
  items_at-map f [] items = refl
  items_at-map f (place ∷ places) items =
      mapped_option f (slice_get items place) (items_at places items) ∙ ap (λ o. cons_option o (map f (items_at places items)))
      (sym (slice_get-map f items place)) ∙ ap (cons_option (slice_get (map f items) place)) (items_at-map f places items)

-- The pairs at them

-- pairs in another order have the same names, each once
pub differ_in_order : (order : List ℕ) (pairs : List (List ℕ × List ℕ)) → IsOrderOf (length pairs) order
    → IsDistinct bytes_eq (names_of pairs) → IsDistinct bytes_eq (names_of (items_at order pairs))
differ_in_order order pairs is differ =
    let moved = permuted order pairs ([], []) is in
    IsDistinct-IsPermutation bytes_eq nat_list_eq_equiv.symm (names_of pairs) (names_of (items_at order pairs))
    (IsPermutation-map (λ p. p.0) pairs (items_at order pairs) moved) differ

all_at : (P : List ℕ → Type 0) (front rest : List (List ℕ × List ℕ)) (p : List ℕ × List ℕ)
    → AllByRecursion P (names_of (front ++ p ∷ rest)) → P p.0
all_at P [] rest p all = all.0
all_at P (q ∷ front) rest p all = all_at P front rest p all.1

-- a name of pairs that differ isn't among the pairs before it
pub none_before : (front rest : List (List ℕ × List ℕ)) (p : List ℕ × List ℕ) → IsDistinct bytes_eq (names_of (front ++ p ∷ rest))
    → bytes_of p.0 front ≡ None
none_before [] rest p differ = refl
none_before (q ∷ front) rest p differ =
    let apart = all_at (λ other. bytes_eq q.0 other ≡ false) front rest p (IsDistinct-head bytes_eq q.0
    (names_of (front ++ p ∷ rest)) differ) in
    let test : bytes_eq p.0 q.0 ≡ false = nat_list_eq_equiv.symm p.0 q.0 ∙ apart in
    ap (λ b. cond b (Some q.1) (bytes_of p.0 front)) test
    ∙ none_before front rest p (IsDistinct-tail bytes_eq q.0 (names_of (front ++ p ∷ rest)) differ)

-- the name of an item that is taken out isn't among those that were taken before
pub none_so_far : {X : Type 0} (f : X → List ℕ × List ℕ) (order : List ℕ) (items done rest : List X) (item : X)
    → items_at order items ≡ (done ++ item ∷ []) ++ rest → IsDistinct bytes_eq (names_of (items_at order (map f items)))
    → bytes_of (f item).0 (map f done) ≡ None
none_so_far f order items done rest item is differ =
    let shape : items_at order (map f items) ≡ map f done ++ f item ∷ map f rest = sym (items_at-map f order items)
    ∙ ap (map f) (is ∙ append_assoc done (item ∷ []) rest) ∙ map-append f done (item ∷ rest) in
    none_before (map f done) (map f rest) (f item) (subst (λ l. IsDistinct bytes_eq (names_of l)) shape differ)
