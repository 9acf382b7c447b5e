-- Lists of the same elements in the same strict order, and lists joined end to end.
use Rattle.std.proofs.Common.{◌≡◌, ◌⊎◌, inl, inr, Bool, true, false, cond, List, [], ◌∷◌, map, All, AllPairs}
use Rattle.std.proofs.Common.{Contains, refl, sym, ap, ◌∙◌, subst}
use Rattle.std.proofs.lemmas.List.Elements.{All-contains, All-head, All-tail, Contains-append_left}
use Rattle.std.proofs.lemmas.List.Elements.{Contains-append_right, Contains-append_cases}
use Rattle.std.specs.List.{filter, flat_map}
use Rattle.jm_bytes.proofs.Members.{contains_none, contains_here, contains_later, contains_cases}
use Rattle.jm_bytes.proofs.Pairs.{pairs_none, pairs_head, pairs_tail, pairs_append}

-- two lists of the same elements in the same strict order are equal
pub same_order : {X : Type 0} (R : X → X → Type 0) → ((x y : X) → R x y → R y x → ⊥) → (xs ys : List X) → AllPairs R xs
    → AllPairs R ys → ((x : X) → Contains xs x → Contains ys x) → ((x : X) → Contains ys x → Contains xs x) → xs ≡ ys
same_order R strict [] [] px py to from = refl
same_order R strict [] (y ∷ ys) px py to from = absurd (contains_none y (from y (contains_here y ys)))
same_order R strict (x ∷ xs) [] px py to from = absurd (contains_none x (to x (contains_here x xs)))
same_order {X} R strict (x ∷ xs) (y ∷ ys) px py to from = joined (same_order R strict xs ys (pairs_tail R x xs px)
    (pairs_tail R y ys py)) (head (contains_cases y ys x (to x (contains_here x xs))) (contains_cases x xs y (from y (contains_here y ys))))
  where
    before_all : (z : X) → Contains xs z → R x z
    before_all z there = All-contains (R x) xs z (pairs_head R x xs px) there

    first_of_all : (z : X) → Contains ys z → R y z
    first_of_all z there = All-contains (R y) ys z (pairs_head R y ys py) there

    head : (y ≡ x) ⊎ Contains ys x → (x ≡ y) ⊎ Contains xs y → x ≡ y
    head (inl same) other = sym same
    head (inr later) (inl same) = same
    head (inr later) (inr behind) = absurd (strict x y (before_all y behind) (first_of_all x later))

    to_rest : x ≡ y → (z : X) → Contains xs z → Contains ys z
    to_rest same z there = elim (contains_cases y ys z (to z (contains_later x xs z there))) [
      | inl is ↦ let at = same ∙ is in let loop = subst (R x) (sym at) (before_all z there) in absurd (strict x x loop loop)
      | inr later ↦ later
    ]

    from_rest : x ≡ y → (z : X) → Contains ys z → Contains xs z
    from_rest same z there = elim (contains_cases x xs z (from z (contains_later y ys z there))) [
      | inl is ↦ let at = sym same ∙ is in let loop = subst (R y) (sym at) (first_of_all z there) in absurd (strict y y loop loop)
      | inr later ↦ later
    ]

    joined : (((z : X) → Contains xs z → Contains ys z) → ((z : X) → Contains ys z → Contains xs z) → xs ≡ ys) → x ≡ y → x ∷ xs ≡ y ∷ ys
    joined rest same = ap (λ z. z ∷ xs) same ∙ ap (λ zs. y ∷ zs) (rest (to_rest same) (from_rest same))

-- Lists joined end to end

pub contains_flat_map : {X Y : Type 0} (f : X → List Y) (xs : List X) (x : X) (y : Y) → Contains xs x → Contains (f x) y
    → Contains (flat_map f xs) y
contains_flat_map f [] x y there one = absurd (contains_none x there)
contains_flat_map f (z ∷ xs) x y there one =
    elim (contains_cases z xs x there) [
      | inl same ↦ Contains-append_left (f z) (flat_map f xs) y (subst (λ a. Contains (f a) y) (sym same) one)
      | inr later ↦ Contains-append_right (f z) (flat_map f xs) y (contains_flat_map f xs x y later one)
    ]

pub from_flat_map : {X Y : Type 0} (f : X → List Y) (xs : List X) (y : Y) → Contains (flat_map f xs) y → (x : X) × Contains xs x
    × Contains (f x) y
from_flat_map f [] y there = absurd (contains_none y there)
from_flat_map f (z ∷ xs) y there =
    elim (Contains-append_cases (f z) (flat_map f xs) y there) [
      | inl here ↦ (z, contains_here z xs, here)
      | inr later ↦ let from = from_flat_map f xs y later in (from.0, contains_later z xs from.0 from.1, from.2)
    ]

pub pairs_flat_map : {X Y : Type 0} (S : X → X → Type 0) (R : Y → Y → Type 0) (f : X → List Y) → ((x : X) → AllPairs R (f x))
    → ((x y : X) → S x y → (a b : Y) → Contains (f x) a → Contains (f y) b → R a b) → (xs : List X) → AllPairs S xs
    → AllPairs R (flat_map f xs)
pairs_flat_map S R f each across [] pairs = pairs_none R
pairs_flat_map S R f each across (x ∷ xs) pairs =
    pairs_append R (f x) (flat_map f xs) (each x) (pairs_flat_map S R f each across xs (pairs_tail S x xs pairs))
    (λ a b in_a in_b.
    let from = from_flat_map f xs b in_b in
    across x from.0 (All-contains (S x) xs from.0 (pairs_head S x xs pairs) from.1) a b in_a from.2)

-- Filtered and mapped lists

pub filter_mapped : {X Y : Type 0} (p : Y → Bool) (f : X → Y) (xs : List X) → filter p (map f xs) ≡ map f (filter (λ x. p (f x)) xs)
filter_mapped p f [] = refl
filter_mapped {X} {Y} p f (x ∷ xs) = go (p (f x)) (filter_mapped p f xs)
  where
    go : (b : Bool) → filter p (map f xs) ≡ map f (filter (λ z. p (f z)) xs) → cond b (f x ∷ filter p (map f xs))
        (filter p (map f xs)) ≡ map f (cond b (x ∷ filter (λ z. p (f z)) xs) (filter (λ z. p (f z)) xs))
    go true rest = ap (λ l. f x ∷ l) rest
    go false rest = rest

-- tests with the same answers at all elements
pub filter_same : {X : Type 0} (p q : X → Bool) (xs : List X) → All (λ x. p x ≡ q x) xs → filter p xs ≡ filter q xs
filter_same p q [] same = refl
filter_same p q (x ∷ xs) same =
    ap (λ b. cond b (x ∷ filter p xs) (filter p xs)) (All-head (λ z. p z ≡ q z) x xs same) ∙ ap (λ l. cond (q x) (x ∷ l) l)
    (filter_same p q xs (All-tail (λ z. p z ≡ q z) x xs same))

pub mapped_twice : {X Y Z : Type 0} (g : Y → Z) (f : X → Y) (xs : List X) → map g (map f xs) ≡ map (λ x. g (f x)) xs
mapped_twice g f [] = refl
mapped_twice g f (x ∷ xs) = ap (λ l. g (f x) ∷ l) (mapped_twice g f xs)
