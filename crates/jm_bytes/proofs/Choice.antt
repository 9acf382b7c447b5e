-- Choices, options and pairs taken apart.
use Rattle.std.proofs.Common.{◌≡◌, ◌⊎◌, inl, inr, ℕ, ◌+◌, ◌≤◌, Bool, true, false, cond, Option, Some, None}
use Rattle.std.proofs.Common.{option_map, Result, Ok, Err, refl, ap, arith}

-- which value a choice took
pub chosen : {A : Type 0} (b : Bool) (x y z : A) → cond b x y ≡ z → ((b ≡ true) × (x ≡ z)) ⊎ ((b ≡ false) × (y ≡ z))
chosen true x y z h = inl (refl, h)
chosen false x y z h = inr (refl, h)

pub same_some : {A : Type 0} (x y : A) → Some x ≡ Some y → x ≡ y
same_some x y e = cc

pub same_ok : {A E : Type 0} (x y : A) → ◌≡◌ {A = Result A E} (Ok x) (Ok y) → x ≡ y
same_ok x y e = cc

pub same_err : {A E : Type 0} (x y : E) → ◌≡◌ {A = Result A E} (Err x) (Err y) → x ≡ y
same_err x y e = cc

-- the parts of two equal pairs under a `Some`
pub same_first : {A B : Type 0} (x y : A) (u v : B) → ◌≡◌ {A = Option (A × B)} (Some (x, u)) (Some (y, v)) → x ≡ y
same_first {A} {B} x y u v e =
    let p : A × B = (x, u) in
    let q : A × B = (y, v) in
    ap (λ (r : A × B). r.0) (same_some p q e)

pub same_second : {A B : Type 0} (x y : A) (u v : B) → ◌≡◌ {A = Option (A × B)} (Some (x, u)) (Some (y, v)) → u ≡ v
same_second {A} {B} x y u v e =
    let p : A × B = (x, u) in
    let q : A × B = (y, v) in
    ap (λ (r : A × B). r.1) (same_some p q e)

pub same_pair : {A B : Type 0} (x y : A) (u v : B) → x ≡ y → u ≡ v → ◌≡◌ {A = A × B} (x, u) (y, v)
same_pair x y u v first second = rw (first, second) refl

-- what a mapped option was made of
pub mapped_some : {A B : Type 0} (f : A → B) (o : Option A) (y : B) → option_map f o ≡ Some y → (x : A) × (o ≡ Some x) × (f x ≡ y)
mapped_some f None y h = cc
mapped_some f (Some x) y h = (x, refl, same_some (f x) y h)

pub mapped_none : {A B : Type 0} (f : A → B) (o : Option A) → option_map f o ≡ None → o ≡ None
mapped_none f None h = refl
mapped_none f (Some x) h = cc

-- a place from another on is that place or behind it
pub first_or_later : (i j : ℕ) → i ≤ j → (i ≡ j) ⊎ (i + 1 ≤ j)
first_or_later i j h = grind arith
