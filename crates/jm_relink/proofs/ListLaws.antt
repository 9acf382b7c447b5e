-- Lists whose elements differ by a key, and parts of lists.
use Rattle.std.proofs.Common.{◌≡◌, ◌≢◌, inl, inr, List, [], ◌∷◌, ◌++◌, map, Option, Some, None}
use Rattle.std.proofs.Common.{IfSome, option_map, option_to_list, All, AllPairs, Contains, append_assoc, refl, subst}
use Rattle.std.proofs.Common.{sym, ap, ◌∙◌}
use Rattle.std.proofs.lemmas.List.Elements.{All-cons, All-contains, All-nil, Contains-append_left, Contains-append_right}
use Rattle.std.proofs.lemmas.List.Kept.{AllPairs-cons}
use Rattle.std.specs.List.{cons_option, flat_map}
use Rattle.jm_bytes.proofs.Members.{all_from_contains, contains_cases, contains_here, contains_map, contains_none}
use Rattle.jm_bytes.proofs.Pairs.{pairs_head, pairs_none, pairs_tail}

pub put_alone : {X : Type 0} (o : Option X) (xs : List X) → cons_option o xs ≡ option_to_list o ++ xs
put_alone None xs = refl
put_alone (Some x) xs = refl

pub map_alone : {X Y : Type 0} (f : X → Y) (o : Option X) → map f (option_to_list o) ≡ option_to_list (option_map f o)
map_alone f None = refl
map_alone f (Some x) = refl

pub all_alone : {X : Type 0} (P : X → Type 0) (o : Option X) → IfSome o P → All P (option_to_list o)
all_alone P None holds = All-nil P
all_alone P (Some x) holds = All-cons P x [] holds (All-nil P)

pub all_front : {X : Type 0} (P : X → Type 0) (xs ys : List X) → All P (xs ++ ys) → All P xs
all_front P xs ys all = all_from_contains P xs (λ x there. All-contains P (xs ++ ys) x all (Contains-append_left xs ys x there))

pub append_none : {X : Type 0} (xs : List X) → xs ++ [] ≡ xs
append_none [] = refl
append_none (x ∷ xs) = ap (λ ys. x ∷ ys) (append_none xs)

-- what was taken of a list, one element after another
pub taken_more : {X : Type 0} (xs left rest all : List X) (x : X) → xs ++ left ≡ all → left ≡ x ∷ rest → (xs ++ x ∷ []) ++ rest
    ≡ all
taken_more xs left rest all x so_far next = append_assoc xs (x ∷ []) rest ∙ ap (λ ys. xs ++ ys) (sym next) ∙ so_far

-- what holds of all holds of the next one
pub of_next : {X : Type 0} (P : X → Type 0) (xs rest all : List X) (x : X) → All P all → xs ++ x ∷ rest ≡ all → P x
of_next P xs rest all x holds whole =
    All-contains P (xs ++ x ∷ rest) x (subst (All P) (sym whole) holds) (Contains-append_right xs (x ∷ rest) x
    (contains_here x rest))

-- two elements with one key are one
pub one_of : {X K : Type 0} (key : X → K) (xs : List X) (x y : X) → AllPairs (λ a b. key a ≢ key b) xs → Contains xs x
    → Contains xs y → key x ≡ key y → x ≡ y
one_of key [] x y differ there too same = absurd (contains_none x there)
one_of {X = X} {K = K} key (z ∷ xs) x y differ there too same =
    elim (contains_cases z xs x there) [
      | inl first ↦
          elim (contains_cases z xs y too) [
            | inl other ↦ sym first ∙ other
            | inr later ↦ absurd (apart y later (ap key first ∙ same))
          ]
      | inr later ↦
          elim (contains_cases z xs y too) [
            | inl other ↦ absurd (apart x later (ap key other ∙ sym same))
            | inr behind ↦ one_of key xs x y (pairs_tail (λ (a b : X). key a ≢ key b) z xs differ) later behind same
          ]
    ]
  where
    apart : (w : X) → Contains xs w → key z ≢ key w
    apart w among = All-contains (λ b. key z ≢ key b) xs w (pairs_head (λ (a b : X). key a ≢ key b) z xs differ) among

module _ {X : Type 0} (R : X → X → Type 0) where
  pub pairs_left : (xs ys : List X) → AllPairs R (xs ++ ys) → AllPairs R xs
  pairs_left [] ys pairs = pairs_none R
  pairs_left (x ∷ xs) ys pairs =
      AllPairs-cons R x xs
      (all_from_contains (R x) xs (λ y there. All-contains (R x) (xs ++ ys) y (pairs_head R x (xs ++ ys) pairs)
      (Contains-append_left xs ys y there)))
      (pairs_left xs ys (pairs_tail R x (xs ++ ys) pairs))

  pub pairs_right : (xs ys : List X) → AllPairs R (xs ++ ys) → AllPairs R ys
  pairs_right [] ys pairs = pairs
  pairs_right (x ∷ xs) ys pairs = pairs_right xs ys (pairs_tail R x (xs ++ ys) pairs)

  -- what stands before an element
  pub pairs_front : (xs : List X) (x : X) (ys : List X) → AllPairs R (xs ++ x ∷ ys) → All (λ y. R y x) xs
  pairs_front xs x ys pairs = all_from_contains (λ y. R y x) xs (go xs pairs)
    where
      go : (ws : List X) → AllPairs R (ws ++ x ∷ ys) → (y : X) → Contains ws y → R y x
      go [] all y there = absurd (contains_none y there)
      go (w ∷ ws) all y there =
          elim (contains_cases w ws y there) [
            | inl same ↦
                let first = All-contains (R w) (ws ++ x ∷ ys) x (pairs_head R w (ws ++ x ∷ ys) all)
                (Contains-append_right ws (x ∷ ys) x (contains_here x ys)) in
                rw (sym same) first
            | inr later ↦ go ws (pairs_tail R w (ws ++ x ∷ ys) all) y later
          ]

  pub pairs_unmap : {Y : Type 0} (f : Y → X) (ys : List Y) → AllPairs R (map f ys) → AllPairs (λ a b. R (f a) (f b)) ys
  pairs_unmap {Y = Y} f [] pairs = pairs_none (λ (a b : Y). R (f a) (f b))
  pairs_unmap {Y = Y} f (y ∷ ys) pairs =
      AllPairs-cons (λ (a b : Y). R (f a) (f b)) y ys
      (all_from_contains (λ b. R (f y) (f b)) ys (λ b there. All-contains (R (f y)) (map f ys) (f b) (pairs_head R (f y) (map f ys)
      pairs) (contains_map f ys b there)))
      (pairs_unmap f ys (pairs_tail R (f y) (map f ys) pairs))

  -- each of the lists that were joined
  pub pairs_each : {Y : Type 0} (f : Y → List X) (ys : List Y) (y : Y) → AllPairs R (flat_map f ys) → Contains ys y → AllPairs R (f y)
  pairs_each f [] y pairs there = absurd (contains_none y there)
  pairs_each f (z ∷ ys) y pairs there =
      elim (contains_cases z ys y there) [
        | inl same ↦ rw (sym same) (pairs_left (f z) (flat_map f ys) pairs)
        | inr later ↦ pairs_each f ys y (pairs_right (f z) (flat_map f ys) pairs) later
      ]
