-- What is answered for the places of a list, beside the elements of the list.
use Rattle.std.proofs.Common.{◌≡◌, ℕ, List, [], ◌∷◌, ◌++◌, Bool, true, false, cond, Some, length, map}
use Rattle.std.proofs.Common.{◌<◌, Contains, slice_get, refl, sym, ap, subst, ◌∙◌, arith, append_assoc}
use Rattle.std.proofs.lemmas.Slice.Zip.{AllZip-map}
use Rattle.std.proofs.lemmas.List.{length_push}
use Rattle.std.specs.Borrow.{Bor}
use Rattle.std.specs.Fn.{FnReturns, FnReturnsAt}
use Rattle.std.specs.List.{AllZip, filter, range_with_len}
use denote.Param.Members.{Shared}
use Rattle.jm_bytes.proofs.Members.{from_range}
use Rattle.jm_halves.proofs.Zipped.{zipped_each}
use Rattle.jm_pool.specs.Pairs.{flagged_items}

module _ {A : Type 0} where
  -- an element after a prefix stands at the prefix's length
  pub at_front : (front rest : List A) (x : A) → slice_get (front ++ x ∷ rest) (length front) ≡ Some x
  at_front [] rest x = refl
  at_front (y ∷ front) rest x = at_front front rest x

  beside : {B : Type 0} (R : A → B → Type 0) (all front rest : List A) (ys : List B) → all ≡ front ++ rest
      → AllZip (λ place y. (x : A) → slice_get all place ≡ Some x → R x y) (range_with_len (length front) (length rest)) ys
      → AllZip R rest ys
  beside R all front [] [] is zipped = tt
  beside R all front [] (y ∷ ys) is zipped = absurd zipped
  beside R all front (x ∷ rest) [] is zipped = absurd zipped
  beside {B} R all front (x ∷ rest) (y ∷ ys) is zipped =
      let there : slice_get all (length front) ≡ Some x = ap (λ l. slice_get l (length front)) is ∙ at_front front rest x in
      let on : all ≡ (front ++ x ∷ []) ++ rest = is ∙ sym (append_assoc front (x ∷ []) rest) in
      let next = subst (λ k. AllZip (λ place (z : B). (w : A) → slice_get all place ≡ Some w → R w z)
      (range_with_len k (length rest)) ys) (sym (length_push front x)) zipped.1 in
      (zipped.0 x there, beside R all (front ++ x ∷ []) rest ys on next)

  -- what holds of the element at each place holds beside the elements
  pub beside_all : {B : Type 0} (R : A → B → Type 0) (xs : List A) (ys : List B) → AllZip (λ place y. (x : A) → slice_get xs place
      ≡ Some x → R x y) (range_with_len 0 (length xs)) ys → AllZip R xs ys
  beside_all R xs ys zipped = beside R xs [] xs ys refl zipped

  -- flags that are the answers of a test keep what passes
  pub flagged_filter : (test : A → Bool) (xs : List A) → flagged_items (map test xs) xs ≡ filter test xs
  flagged_filter test [] = refl
  flagged_filter test (x ∷ xs) = go (test x) (flagged_filter test xs)
    where
      go : (b : Bool) → flagged_items (map test xs) xs ≡ filter test xs → flagged_items (b ∷ map test xs) (x ∷ xs)
          ≡ cond b (x ∷ filter test xs) (filter test xs)
      go true rest = ap (λ l. x ∷ l) rest
      go false rest = rest

-- answers that are a function of the element at each place
pub mapped_beside : {A B : Type 0} (v : A → B) (xs : List A) (ys : List B) → AllZip (λ place y. (x : A) → slice_get xs place ≡ Some x
    → y ≡ v x) (range_with_len 0 (length xs)) ys → ys ≡ map v xs
mapped_beside v xs ys zipped = AllZip-map v xs ys (beside_all (λ x y. y ≡ v x) xs ys zipped)

-- what the function of a parallel map answers of each item, said of a list that the items are
pub each_told : {F A B : Type 0} (g : Shared F (Bor A × Unit {0}) B) (f : F) (Q : A → B → Type 0) (xs all : List A) (ys : List B)
    → xs ≡ all → ((x : Bor A) (b : B) → FnReturns g f (x, tt) b → Q x.now b) → AllZip (FnReturnsAt g f) xs ys → AllZip Q all ys
each_told g f Q xs all ys is answers zipped = subst (λ l. AllZip Q l ys) is (zipped_each g f Q xs ys answers zipped)

-- each of the first places is below their number
pub below_count : (places : List ℕ) (n k : ℕ) → places ≡ range_with_len 0 n → Contains places k → k < n
below_count places n k is there = let inside = from_range 0 n k (subst (λ l. Contains l k) is there) in omega (arith, inside)
