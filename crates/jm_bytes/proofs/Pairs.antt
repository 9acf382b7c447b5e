-- Lists whose elements all stand in a relation to the later ones, and numbers one after another.
use Rattle.std.proofs.Common.{◌≡◌, ℕ, zero, suc, ◌+◌, ◌<◌, List, [], ◌∷◌, ◌++◌, length, map, take, get_or}
use Rattle.std.proofs.Common.{Option, Some, None, All, AllPairs, Contains, refl, sym, ap, ◌∙◌, arith}
use Rattle.std.proofs.lemmas.List.{get_or-take, get_or_default, length-take-le}
use Rattle.std.proofs.lemmas.List.Elements.{All-append, All-map, Contains-get_or}
use Rattle.std.proofs.lemmas.List.FromFn.{length-range_with_len, get_or-range_with_len}
use Rattle.std.proofs.lemmas.List.Kept.{AllPairs-cons}
use Rattle.std.specs.List.{filter_map, cons_option, range_with_len}
use Rattle.jm_bytes.proofs.Members.{all_filter_map, all_from_contains}

pub pairs_none : {X : Type 0} (R : X → X → Type 0) → AllPairs R []
pairs_none R i j d before below = absurd (omega arith)

-- the first element is in relation to all later ones
pub pairs_head : {X : Type 0} (R : X → X → Type 0) (x : X) (xs : List X) → AllPairs R (x ∷ xs) → All (R x) xs
pairs_head R x xs pairs k d below = pairs 0 (suc k) d (omega arith) (omega arith)

pub pairs_tail : {X : Type 0} (R : X → X → Type 0) (x : X) (xs : List X) → AllPairs R (x ∷ xs) → AllPairs R xs
pairs_tail R x xs pairs i j d before below = pairs (suc i) (suc j) d (omega arith) (omega arith)

-- the elements in front of a place are in relation to the one that stands there
pub pairs_before : {X : Type 0} (R : X → X → Type 0) (xs : List X) (i : ℕ) (d : X) → AllPairs R xs → i < length xs
    → All (λ x. R x (get_or xs i d)) (take i xs)
pairs_before R xs i d pairs inside k e below =
    let long = length-take-le i xs (omega arith) in
    let front : k < i = omega arith in
    let related = pairs k i d front inside in
    rw (get_or-take i xs k e front, get_or_default xs k e d (omega arith)) related

pub pairs_weaker : {X : Type 0} (R S : X → X → Type 0) → ((x y : X) → R x y → S x y) → (xs : List X) → AllPairs R xs → AllPairs S xs
pairs_weaker R S weaker xs pairs i j d before below = weaker (get_or xs i d) (get_or xs j d) (pairs i j d before below)

-- a relation that the function carries over
pub pairs_filter_map : {X Y : Type 0} (Q : X → X → Type 0) (R : Y → Y → Type 0) (f : X → Option Y) → ((x y : X) → Q x y → (a b : Y)
    → f x ≡ Some a → f y ≡ Some b → R a b) → (xs : List X) → AllPairs Q xs → AllPairs R (filter_map f xs)
pairs_filter_map Q R f carried [] pairs = pairs_none R
pairs_filter_map {X} {Y} Q R f carried (x ∷ xs) pairs = go (f x) refl (pairs_filter_map Q R f carried xs (pairs_tail Q x xs pairs))
  where
    go : (o : Option Y) → f x ≡ o → AllPairs R (filter_map f xs) → AllPairs R (cons_option o (filter_map f xs))
    go None e rest = rest
    go (Some a) e rest = AllPairs-cons R a (filter_map f xs) (all_filter_map (Q x) (R a) f (λ y b related gives. carried x y related
        a b e gives) xs (pairs_head Q x xs pairs)) rest

pub pairs_map : {X Y : Type 0} (R : Y → Y → Type 0) (f : X → Y) (xs : List X) → AllPairs (λ x y. R (f x) (f y)) xs → AllPairs R (map f xs)
pairs_map R f [] pairs = pairs_none R
pairs_map R f (x ∷ xs) pairs =
    AllPairs-cons R (f x) (map f xs) (All-map (R (f x)) f xs (pairs_head (λ x y. R (f x) (f y)) x xs pairs))
    (pairs_map R f xs (pairs_tail (λ x y. R (f x) (f y)) x xs pairs))

-- Numbers one after another

pub range_rises : (i n : ℕ) → AllPairs (λ a b. a < b) (range_with_len i n)
range_rises i n j k d before below =
    let long = length-range_with_len i n in
    rw (get_or-range_with_len i n j d (omega arith), get_or-range_with_len i n k d (omega arith)) (omega arith)

-- one number more
pub range_more : (i n : ℕ) → range_with_len i (n + 1) ≡ range_with_len i n ++ (i + n) ∷ []
range_more i zero = let place : i ≡ i + 0 = omega arith in ap (λ k. k ∷ []) place
range_more i (suc n) =
    let count : suc n + 1 ≡ suc (n + 1) = omega arith in
    let place : i + 1 + n ≡ i + suc n = omega arith in
    ap (range_with_len i) count ∙ ap (λ ks. i ∷ ks) (range_more (i + 1) n) ∙ ap (λ k. i ∷ (range_with_len (i + 1) n ++ k ∷ [])) place

pub range_with_len-append : (i m n : ℕ) → range_with_len i (m + n) ≡ range_with_len i m ++ range_with_len (i + m) n
range_with_len-append i zero n =
    let none : zero + n ≡ n = omega arith in
    let here : i + zero ≡ i = omega arith in
    ap (range_with_len i) none ∙ ap (λ (k : ℕ). range_with_len k n) (sym here)
range_with_len-append i (suc m) n =
    let more : suc m + n ≡ suc (m + n) = omega arith in
    let on : (i + 1) + m ≡ i + suc m = omega arith in
    ap (range_with_len i) more ∙ ap (λ ks. i ∷ ks) (range_with_len-append (i + 1) m n)
    ∙ ap (λ (k : ℕ). i ∷ (range_with_len (i + 1) m ++ range_with_len k n)) on

-- Lists in which all earlier elements are in a relation to all later ones

pub pairs_append : {X : Type 0} (R : X → X → Type 0) (xs ys : List X) → AllPairs R xs → AllPairs R ys → ((x y : X) → Contains xs x
    → Contains ys y → R x y) → AllPairs R (xs ++ ys)
pairs_append R [] ys front back across = back
pairs_append R (x ∷ xs) ys front back across =
    let head = All-append (R x) xs ys (pairs_head R x xs front) (all_from_contains (R x) ys
    (λ y there. across x y (0, omega arith, refl) there)) in
    AllPairs-cons R x (xs ++ ys) head (pairs_append R xs ys (pairs_tail R x xs front) back (λ y z here there. across y z
    (suc here.0, omega (arith, here.1), here.2) there))

-- a relation of elements of the list
pub pairs_among : {X : Type 0} (R S : X → X → Type 0) (xs : List X) → ((x y : X) → Contains xs x → Contains xs y → R x y → S x y)
    → AllPairs R xs → AllPairs S xs
pairs_among R S xs related pairs i j d before below =
    related (get_or xs i d) (get_or xs j d) (Contains-get_or xs i d (omega arith)) (Contains-get_or xs j d below) (pairs i j d before below)
