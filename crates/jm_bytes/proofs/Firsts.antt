-- The first element of a list that passes a test, found by its place.
use Rattle.std.proofs.Common.{◌≡◌, ℕ, zero, suc, ◌+◌, ◌<◌, ◌||◌, not, Bool, true, false, cond, List, [], ◌∷◌}
use Rattle.std.proofs.Common.{length, take, get_or, refl, ap, ◌∙◌, arith, length-take}
use Rattle.std.proofs.lemmas.Bool.{false_from_ne_true}
use Rattle.std.proofs.lemmas.List.{length-take-le, take-take}
use Rattle.std.proofs.lemmas.List.Elements.{All-from_get_or}
use Rattle.std.proofs.lemmas.List.Folds.{list_any_none}
use Rattle.std.proofs.lemmas.List.Sums.{passes_at_first, position_or_len_is}
use Rattle.std.specs.List.{before_first, list_any, position_or_len}

-- what stands before the first element that passes, where its place is known
pub before_first_at : {X : Type 0} (p : X → Bool) (xs : List X) (i : ℕ) (d : X) → i < length xs
    → ((k : ℕ) → k < i → p (get_or xs k d) ≡ true → ⊥) → p (get_or xs i d) ≡ true → before_first p xs ≡ take i xs
before_first_at p xs i d below earlier here =
    let place = position_or_len_is p xs i d (omega arith) (λ k k_below. false_from_ne_true (p (get_or xs k d)) (earlier k k_below))
    (λ _. here) in
    ap (λ n. take n xs) place

-- no element passes where none passes at any place
pub no_first : {X : Type 0} (p : X → Bool) (xs : List X) (d : X) → ((k : ℕ) → k < length xs → p (get_or xs k d) ≡ true → ⊥)
    → list_any p xs ≡ false
no_first p xs d none_passes =
    list_any_none p xs (All-from_get_or (λ x. p x ≡ false) xs d (λ k below. false_from_ne_true (p (get_or xs k d)) (none_passes k below)))

-- the first element that passes stands in the list where one passes
pub position_below : {X : Type 0} (p : X → Bool) (xs : List X) → list_any p xs ≡ true → position_or_len p xs < length xs
position_below p [] some = cc
position_below {X} p (x ∷ xs) some = go (p x) some (position_below p xs)
  where
    go : (b : Bool) → (b || list_any p xs) ≡ true → (list_any p xs ≡ true → position_or_len p xs < length xs)
        → cond (not b) (1 + position_or_len p xs) 0 < suc (length xs)
    go true some more = omega arith
    go false some more = let below = more some in omega arith

-- a front in which an element passes has the list's first one
pub position-take : {X : Type 0} (p : X → Bool) (n : ℕ) (xs : List X) → list_any p (take n xs) ≡ true
    → position_or_len p (take n xs) ≡ position_or_len p xs
position-take p zero xs some = cc
position-take p (suc n) [] some = cc
position-take {X} p (suc n) (x ∷ xs) some = go (p x) some (position-take p n xs)
  where
    go : (b : Bool) → (b || list_any p (take n xs)) ≡ true → (list_any p (take n xs) ≡ true → position_or_len p (take n xs)
        ≡ position_or_len p xs) → cond (not b) (1 + position_or_len p (take n xs)) 0 ≡ cond (not b) (1 + position_or_len p xs) 0
    go true some more = refl
    go false some more = ap (λ k. 1 + k) (more some)

-- what stands before it is the same, and shorter than the front
pub before_first-take : {X : Type 0} (p : X → Bool) (n : ℕ) (xs : List X) → list_any p (take n xs) ≡ true
    → (before_first p (take n xs) ≡ before_first p xs) × (length (before_first p xs) < length (take n xs))
before_first-take p n xs some =
    let k : ℕ = position_or_len p xs in
    let same : position_or_len p (take n xs) ≡ k = position-take p n xs some in
    let below : k < length (take n xs) = rw same at (position_below p (take n xs) some) in
    let size = length-take n xs in
    let cut : take k (take n xs) ≡ take k xs = take-take k n xs (omega arith) in
    let front : length (take k xs) ≡ k = length-take-le k xs (omega arith) in
    (ap (λ j. take j (take n xs)) same ∙ cut, omega arith)

-- an element that passes stands at some place
pub place_of_any : {X : Type 0} (p : X → Bool) (xs : List X) (d : X) → list_any p xs ≡ true → (k : ℕ) × (k < length xs)
    × (p (get_or xs k d) ≡ true)
place_of_any p xs d some =
    let below = position_below p xs some in
    (position_or_len p xs, below, passes_at_first p xs d below)
