-- What a list contains: by cases on its head, and where it is filtered, mapped or counted out.
use Rattle.std.proofs.Common.{◌≡◌, ℕ, zero, suc, ◌+◌, ◌-◌, ◌<◌, ◌≤◌, ◌⊎◌, inl, inr, Bool, true, false, cond}
use Rattle.std.proofs.Common.{List, [], ◌∷◌, length, map, slice_get, Option, Some, None, All, Contains, refl}
use Rattle.std.proofs.Common.{sym, ap, ◌∙◌, subst, arith}
use Rattle.std.proofs.lemmas.Bool.{false≢true}
use Rattle.std.proofs.lemmas.List.Elements.{All-contains, All-contains_itself, All-cons, All-head, All-nil}
use Rattle.std.proofs.lemmas.List.Elements.{All-tail, All-filter, filter_passes}
use Rattle.std.proofs.lemmas.List.FromFn.{length-range_with_len, get_or-range_with_len}
use Rattle.std.proofs.lemmas.List.Folds.{list_any_at, Any-from_list_any}
use Rattle.std.specs.List.{list_any, filter, filter_map, cons_option, range_with_len}

pub contains_none : {X : Type 0} (x : X) → Contains [] x → ⊥
contains_none x (k, below, is) = omega arith

pub contains_here : {X : Type 0} (x : X) (xs : List X) → Contains (x ∷ xs) x
contains_here x xs = (0, omega arith, refl)

pub contains_later : {X : Type 0} (x : X) (xs : List X) (y : X) → Contains xs y → Contains (x ∷ xs) y
contains_later x xs y (k, below, is) = (suc k, omega arith, is)

-- an element is the first or one of the later ones
pub contains_cases : {X : Type 0} (x : X) (xs : List X) (y : X) → Contains (x ∷ xs) y → (x ≡ y) ⊎ Contains xs y
contains_cases x xs y (zero, below, is) = inl is
contains_cases x xs y (suc k, below, is) = inr (k, omega arith, is)

-- a place within a list has an element
pub element_at : {X : Type 0} (xs : List X) (i : ℕ) → i < length xs → (x : X) × (slice_get xs i ≡ Some x)
element_at [] i within = absurd (omega (arith, within))
element_at (x ∷ xs) zero within = (x, refl)
element_at (x ∷ xs) (suc i) within = element_at xs i (omega (arith, within))

-- what holds of each element, from what holds of all that the list contains
pub all_from_contains : {X : Type 0} (P : X → Type 0) (xs : List X) → ((x : X) → Contains xs x → P x) → All P xs
all_from_contains P [] each = All-nil P
all_from_contains P (x ∷ xs) each =
    All-cons P x xs (each x (contains_here x xs)) (all_from_contains P xs (λ y there. each y (contains_later x xs y there)))

-- a test that an element passes
pub any_contains : {X : Type 0} (p : X → Bool) (xs : List X) (x : X) → Contains xs x → p x ≡ true → list_any p xs ≡ true
any_contains p xs x there passes = list_any_at p xs there.0 x there.1 (ap p there.2 ∙ passes)

pub from_any : {X : Type 0} (p : X → Bool) (xs : List X) → list_any p xs ≡ true → (x : X) × Contains xs x × (p x ≡ true)
from_any p xs some = let one = Any-from_list_any p xs some in (one.1, (one.0, one.2, one.3), one.4)

-- Filtered

pub contains_filter : {X : Type 0} (p : X → Bool) (xs : List X) (x : X) → Contains xs x → p x ≡ true → Contains (filter p xs) x
contains_filter p [] x there passes = absurd (contains_none x there)
contains_filter {X} p (y ∷ xs) x there passes = go (p y) refl (contains_cases y xs x there) (λ later. contains_filter p xs x later passes)
  where
    go : (b : Bool) → p y ≡ b → (y ≡ x) ⊎ Contains xs x → (Contains xs x → Contains (filter p xs) x)
        → Contains (cond b (y ∷ filter p xs) (filter p xs)) x
    go true e (inl same) rest = subst (Contains (y ∷ filter p xs)) same (contains_here y (filter p xs))
    go false e (inl same) rest = absurd (false≢true (sym e ∙ ap p same ∙ passes))
    go true e (inr later) rest = contains_later y (filter p xs) x (rest later)
    go false e (inr later) rest = rest later

pub from_filter : {X : Type 0} (p : X → Bool) (xs : List X) (x : X) → Contains (filter p xs) x → Contains xs x × (p x ≡ true)
from_filter p xs x there =
    let among = All-filter p (Contains xs) xs (All-contains_itself xs) in
    (All-contains (Contains xs) (filter p xs) x among there, All-contains (λ y. p y ≡ true) (filter p xs) x (filter_passes p xs) there)

pub length_filter : {X : Type 0} (p : X → Bool) (xs : List X) → length (filter p xs) ≤ length xs
length_filter p [] = omega arith
length_filter {X} p (x ∷ xs) = go (p x) (length_filter p xs)
  where
    go : (b : Bool) → length (filter p xs) ≤ length xs → length (cond b (x ∷ filter p xs) (filter p xs)) ≤ suc (length xs)
    go true rest = omega arith
    go false rest = omega arith

pub filter_none : {X : Type 0} (p : X → Bool) (xs : List X) → All (λ x. p x ≡ false) xs → filter p xs ≡ []
filter_none p [] fails = refl
filter_none p (x ∷ xs) fails = ap (λ b. cond b (x ∷ filter p xs) (filter p xs)) (All-head (λ y. p y ≡ false) x xs fails)
    ∙ filter_none p xs (All-tail (λ y. p y ≡ false) x xs fails)

-- Filtered and mapped

pub contains_filter_map : {X Y : Type 0} (f : X → Option Y) (xs : List X) (x : X) (y : Y) → Contains xs x → f x ≡ Some y
    → Contains (filter_map f xs) y
contains_filter_map f [] x y there gives = absurd (contains_none x there)
contains_filter_map {X} {Y} f (z ∷ xs) x y there gives = go (f z) refl (contains_cases z xs x there) (λ later. contains_filter_map f
    xs x y later gives)
  where
    go : (o : Option Y) → f z ≡ o → (z ≡ x) ⊎ Contains xs x → (Contains xs x → Contains (filter_map f xs) y)
        → Contains (cons_option o (filter_map f xs)) y
    go o e (inl same) rest = let is : o ≡ Some y = sym e ∙ ap f same ∙ gives in rw is (contains_here y (filter_map f xs))
    go None e (inr later) rest = rest later
    go (Some first) e (inr later) rest = contains_later first (filter_map f xs) y (rest later)

pub from_filter_map : {X Y : Type 0} (f : X → Option Y) (xs : List X) (y : Y) → Contains (filter_map f xs) y → (x : X)
    × Contains xs x × (f x ≡ Some y)
from_filter_map f [] y there = absurd (contains_none y there)
from_filter_map {X} {Y} f (z ∷ xs) y there = go (f z) refl there (λ later. from_filter_map f xs y later)
  where
    more : (x : X) × Contains xs x × (f x ≡ Some y) → (x : X) × Contains (z ∷ xs) x × (f x ≡ Some y)
    more (x, later, gives) = (x, contains_later z xs x later, gives)

    go : (o : Option Y) → f z ≡ o → Contains (cons_option o (filter_map f xs)) y → (Contains (filter_map f xs) y → (x : X)
        × Contains xs x × (f x ≡ Some y)) → (x : X) × Contains (z ∷ xs) x × (f x ≡ Some y)
    go None e there rest = more (rest there)
    go (Some first) e there rest =
        elim (contains_cases first (filter_map f xs) y there) [
          | inl same ↦ (z, contains_here z xs, e ∙ ap (λ (v : Y). Some v) same)
          | inr later ↦ more (rest later)
        ]

-- what holds of each element gives what holds of each that comes of one
pub all_filter_map : {X Y : Type 0} (P : X → Type 0) (Q : Y → Type 0) (f : X → Option Y) → ((x : X) (y : Y) → P x → f x ≡ Some y
    → Q y) → (xs : List X) → All P xs → All Q (filter_map f xs)
all_filter_map {X} {Y} P Q f carried xs all = all_from_contains Q (filter_map f xs)
    (λ y there. let from = from_filter_map f xs y there in carried from.0 y (All-contains P xs from.0 all from.1) from.2)

pub length_filter_map : {X Y : Type 0} (f : X → Option Y) (xs : List X) → length (filter_map f xs) ≤ length xs
length_filter_map f [] = omega arith
length_filter_map {X} {Y} f (x ∷ xs) = go (f x) (length_filter_map f xs)
  where
    go : (o : Option Y) → length (filter_map f xs) ≤ length xs → length (cons_option o (filter_map f xs)) ≤ suc (length xs)
    go None rest = omega arith
    go (Some y) rest = omega arith

-- Mapped

pub contains_map : {X Y : Type 0} (f : X → Y) (xs : List X) (x : X) → Contains xs x → Contains (map f xs) (f x)
contains_map f [] x there = absurd (contains_none x there)
contains_map f (z ∷ xs) x there =
    elim (contains_cases z xs x there) [
      | inl same ↦ subst (λ y. Contains (f z ∷ map f xs) y) (ap f same) (contains_here (f z) (map f xs))
      | inr later ↦ contains_later (f z) (map f xs) (f x) (contains_map f xs x later)
    ]

pub from_map : {X Y : Type 0} (f : X → Y) (xs : List X) (y : Y) → Contains (map f xs) y → (x : X) × Contains xs x × (f x ≡ y)
from_map f [] y there = absurd (contains_none y there)
from_map f (z ∷ xs) y there =
    elim (contains_cases (f z) (map f xs) y there) [
      | inl same ↦ (z, contains_here z xs, same)
      | inr later ↦ let from = from_map f xs y later in (from.0, contains_later z xs from.0 from.1, from.2)
    ]

-- Numbers of a range

pub contains_range : (i n k : ℕ) → i ≤ k → k < i + n → Contains (range_with_len i n) k
contains_range i n k from to =
    let long = length-range_with_len i n in
    let back : i + (k - i) ≡ k = omega arith in
    (k - i, omega arith, get_or-range_with_len i n (k - i) k (omega arith) ∙ back)

pub from_range : (i n k : ℕ) → Contains (range_with_len i n) k → (i ≤ k) × (k < i + n)
from_range i n k (j, below, is) =
    let long = length-range_with_len i n in
    let place = get_or-range_with_len i n j k (omega arith) in
    let same : k ≡ i + j = sym is ∙ place in
    (omega arith, omega arith)
