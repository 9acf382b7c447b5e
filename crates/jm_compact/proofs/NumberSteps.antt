-- The new numbers of slots, one slot after another.
use Rattle.std.proofs.Common.{◌≡◌, ℕ, suc, ◌+◌, ◌-◌, ◌<◌, ◌≤◌, ◌⊎◌, inl, inr, Bool, true, false, cond, List}
use Rattle.std.proofs.Common.{[], ◌∷◌, ◌++◌, length, get_or, map, filter, refl, sym, ap, ◌∙◌, arith}
use Rattle.std.proofs.lemmas.Bool.{cases_lt}
use Rattle.std.proofs.lemmas.List.{take_all, get_or_past}
use Rattle.std.proofs.lemmas.List.FromFn.{map-range_with_len_more, get_or-map-range_with_len, length-map-range_with_len}
use Rattle.std.specs.List.{range_with_len}
use Rattle.std.specs.Prelude.{nat_eq}
use Rattle.jm_compact.specs.declared.numbers.Numbers.{Numbers}
use Rattle.jm_compact.specs.Compact.{kept_before, new_number}
use Rattle.jm_compact.proofs.NewNumbers.{kept_before-next}
use Rattle.jm_compact.specs.Steps.{AreNumbers, by_numbers}

pub count_next : (flags : List Bool) (place : ℕ) → (1 + kept_before flags place) + cond (get_or flags place false) 1 0
    ≡ 1 + kept_before flags (place + 1)
count_next flags place =
    let one : place + 1 ≡ suc place = omega arith in
    let next = ap (kept_before flags) one ∙ kept_before-next flags place in
    omega (arith, next)

-- after the last slot nothing more is kept
kept_before-end : (flags : List Bool) (place : ℕ) → length flags ≤ place → kept_before flags place ≡ kept_before flags (length flags)
kept_before-end flags place past = ap (λ t. length (filter (λ flag. flag) t)) (take_all place flags past
    ∙ sym (take_all (length flags) flags (omega arith)))

pub numbers_next : (flags : List Bool) (place : ℕ) → map (λ place. 1 + kept_before flags place) (range_with_len 0 (place + 1))
    ≡ map (λ place. 1 + kept_before flags place) (range_with_len 0 place) ++ (1 + kept_before flags place) ∷ []
numbers_next flags place = map-range_with_len_more (λ place. 1 + kept_before flags place) 0 place place (omega arith)

-- the table says what the rule says
pub by_numbers-is : (flags : List Bool) (numbers : Numbers) → AreNumbers flags numbers → (index : ℕ) → by_numbers numbers index
    ≡ new_number flags index
by_numbers-is flags numbers are index = go (nat_eq index 0) refl
  where
    slot : (place : ℕ) → (place < length flags) ⊎ (length flags ≤ place) → get_or numbers.slots place numbers.count
        ≡ 1 + kept_before flags place
    slot place (inl below) = ap (λ t. get_or t place numbers.count) are.slots
        ∙ get_or-map-range_with_len (λ place. 1 + kept_before flags place) 0 (length flags) place place numbers.count below (omega arith)
    slot place (inr past) =
        let size = ap length are.slots ∙ length-map-range_with_len (λ place. 1 + kept_before flags place) 0 (length flags) in
        get_or_past numbers.slots place numbers.count (omega (arith, size, past)) ∙ are.count
        ∙ ap (λ n. 1 + n) (sym (kept_before-end flags place past))

    go : (b : Bool) → nat_eq index 0 ≡ b → cond b 0 (get_or numbers.slots (index - 1) numbers.count)
        ≡ cond b 0 (1 + kept_before flags (index - 1))
    go true e = refl
    go false e = slot (index - 1) (cases_lt (index - 1) (length flags))
