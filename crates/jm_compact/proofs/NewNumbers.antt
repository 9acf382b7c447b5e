-- New numbers, by the flags of the slots.
use Rattle.std.proofs.Common.{◌≡◌, ℕ, zero, suc, ◌+◌, ◌-◌, ◌<◌, ◌≤◌, Bool, true, false, cond, List, [], ◌∷◌}
use Rattle.std.proofs.Common.{get_or, length, refl, sym, ap, ◌∙◌, arith}
use Rattle.std.proofs.lemmas.Bool.{eqb-true, eqb-false, ne_eqb}
use Rattle.std.specs.Prelude.{nat_eq}
use Rattle.jm_compact.specs.Compact.{kept_before, new_number}

-- How many are kept

pub kept_before-small : (flags : List Bool) (place : ℕ) → kept_before flags place ≤ place
kept_before-small [] zero = omega arith
kept_before-small [] (suc place) = omega arith
kept_before-small (flag ∷ flags) zero = omega arith
kept_before-small (true ∷ flags) (suc place) = let rest = kept_before-small flags place in omega (arith, rest)
kept_before-small (false ∷ flags) (suc place) = let rest = kept_before-small flags place in omega (arith, rest)

-- a kept slot is one more before the next
pub kept_before-next : (flags : List Bool) (place : ℕ) → kept_before flags (suc place)
    ≡ kept_before flags place + cond (get_or flags place false) 1 0
kept_before-next [] zero = refl
kept_before-next [] (suc place) = refl
kept_before-next (true ∷ flags) zero = refl
kept_before-next (false ∷ flags) zero = refl
kept_before-next (true ∷ flags) (suc place) = let rest = kept_before-next flags place in omega (arith, rest)
kept_before-next (false ∷ flags) (suc place) = kept_before-next flags place

-- all are kept
kept_before-all : (flags : List Bool) → ((place : ℕ) → place < length flags → get_or flags place false ≡ true) → (place : ℕ)
    → place ≤ length flags → kept_before flags place ≡ place
kept_before-all [] all zero within = refl
kept_before-all [] all (suc place) within = absurd (omega (arith, within))
kept_before-all (flag ∷ flags) all zero within = refl
kept_before-all (true ∷ flags) all (suc place) within =
    let rest = kept_before-all flags (λ p below. all (suc p) (omega (arith, below))) place (omega (arith, within)) in
    omega (arith, rest)
kept_before-all (false ∷ flags) all (suc place) within = let first : false ≡ true = all 0 (omega arith) in cc

-- New numbers

-- the number of a constant, by the place of its slot
pub new_number-at : (flags : List Bool) (place : ℕ) → new_number flags (place + 1) ≡ 1 + kept_before flags place
new_number-at flags place =
    let back : (place + 1) - 1 ≡ place = omega arith in
    let test : nat_eq (place + 1) 0 ≡ false = ne_eqb (place + 1) 0 (λ e. omega (arith, e)) in
    rw (test, back) refl

-- the place of a number above 0
pub place_of : (i : ℕ) → 0 < i → (i - 1) + 1 ≡ i
place_of i some = omega (arith, some)

pub new_number-some : (flags : List Bool) (i : ℕ) → 0 < i → new_number flags i ≡ 1 + kept_before flags (i - 1)
new_number-some flags i some = ap (new_number flags) (sym (place_of i some)) ∙ new_number-at flags (i - 1)

pub new_number-small : (flags : List Bool) (i : ℕ) → new_number flags i ≤ i
new_number-small flags i = go (nat_eq i 0) refl
  where
    go : (b : Bool) → nat_eq i 0 ≡ b → cond b 0 (1 + kept_before flags (i - 1)) ≤ i
    go true e = omega arith
    go false e =
        let differs = eqb-false i 0 e in
        let small = kept_before-small flags (i - 1) in
        omega (arith, differs, small)

-- numbers stay where all are kept
pub new_number-all : (flags : List Bool) → ((place : ℕ) → place < length flags → get_or flags place false ≡ true) → (i : ℕ)
    → i ≤ length flags → new_number flags i ≡ i
new_number-all flags all i within = go (nat_eq i 0) refl
  where
    go : (b : Bool) → nat_eq i 0 ≡ b → cond b 0 (1 + kept_before flags (i - 1)) ≡ i
    go true e = sym (eqb-true i 0 e)
    go false e =
        let differs = eqb-false i 0 e in
        let same = kept_before-all flags all (i - 1) (omega (arith, within)) in
        omega (arith, differs, same)
