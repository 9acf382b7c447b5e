-- Checks in their order: the first fault as a rule, as a value, and over a range of numbers.
use Rattle.std.proofs.Common.{◌≡◌, ℕ, zero, suc, ◌+◌, ◌<◌, ◌≤◌, inl, inr, Bool, true, false, List, []}
use Rattle.std.proofs.Common.{◌∷◌, ◌++◌, map, Option, Some, None, refl, sym, ap, ◌∙◌, arith}
use Rattle.std.proofs.lemmas.List.Elements.{All-nil, All-cons, All-head, All-tail}
use Rattle.std.specs.Prelude.{All, slice_get}
use Rattle.std.specs.List.{range_with_len}
use Rattle.jm_bytes.specs.Checks.{fault_if, first_fault, IsFirstFault}
use Rattle.jm_bytes.proofs.Choice.{same_some, first_or_later}

-- One check

pub fault_if_none : {F : Type 0} (found : Bool) (fault : F) → fault_if found fault ≡ None → found ≡ false
fault_if_none false fault e = refl
fault_if_none true fault e = cc

pub fault_if_false : {F : Type 0} (found : Bool) (fault : F) → found ≡ false → fault_if found fault ≡ None
fault_if_false found fault e = rw e refl

pub fault_if_some : {F : Type 0} (found : Bool) (fault other : F) → fault_if found fault ≡ Some other → (found ≡ true) × (fault ≡ other)
fault_if_some true fault other e = (refl, same_some fault other e)
fault_if_some false fault other e = cc

pub fault_if_true : {F : Type 0} (found : Bool) (fault : F) → found ≡ true → fault_if found fault ≡ Some fault
fault_if_true found fault e = rw e refl

-- The rule and its value

pub first_fault_is : {F : Type 0} (checks : List (Option F)) (fault : F) → first_fault checks ≡ Some fault → IsFirstFault checks fault
first_fault_is [] fault e = cc
first_fault_is (Some found ∷ checks) fault e = record { place = 0; found = ap (λ c. Some c) e; before = λ k below. absurd (omega arith) }
first_fault_is {F} (None ∷ checks) fault e =
    let rest = first_fault_is checks fault e in
    record { place = suc rest.place; found = rest.found; before = before rest.place rest.before }
  where
    before : (place : ℕ) → ((k : ℕ) → k < place → slice_get checks k ≡ Some None) → (k : ℕ) → k < suc place
        → slice_get (None ∷ checks) k ≡ Some None
    before place rest zero below = refl
    before place rest (suc k) below = rest k (omega arith)

first_fault_place : {F : Type 0} (checks : List (Option F)) (fault : F) (place : ℕ) → slice_get checks place ≡ Some (Some fault)
    → ((k : ℕ) → k < place → slice_get checks k ≡ Some None) → first_fault checks ≡ Some fault
first_fault_place [] fault place found before = cc
first_fault_place (check ∷ checks) fault zero found before = rw (same_some check (Some fault) found) refl
first_fault_place (check ∷ checks) fault (suc place) found before =
    let none : check ≡ None = same_some check None (before 0 (omega arith)) in
    rw none (first_fault_place checks fault place found (λ k below. before (suc k) (omega arith)))

pub first_fault_from : {F : Type 0} (checks : List (Option F)) (fault : F) → IsFirstFault checks fault → first_fault checks ≡ Some fault
first_fault_from checks fault first = first_fault_place checks fault first.place first.found first.before

-- No fault

pub no_fault_head : {F : Type 0} (check : Option F) (checks : List (Option F)) → first_fault (check ∷ checks) ≡ None → check ≡ None
no_fault_head None checks e = refl
no_fault_head (Some fault) checks e = cc

pub no_fault_tail : {F : Type 0} (check : Option F) (checks : List (Option F)) → first_fault (check ∷ checks) ≡ None
    → first_fault checks ≡ None
no_fault_tail None checks e = e
no_fault_tail (Some fault) checks e = cc

pub no_fault_cons : {F : Type 0} (check : Option F) (checks : List (Option F)) → check ≡ None → first_fault checks ≡ None
    → first_fault (check ∷ checks) ≡ None
no_fault_cons check checks here later = rw here later

pub no_fault_all : {F : Type 0} (checks : List (Option F)) → first_fault checks ≡ None → All (λ check. check ≡ None) checks
no_fault_all [] e = All-nil (λ check. check ≡ None)
no_fault_all (check ∷ checks) e =
    All-cons (λ check. check ≡ None) check checks (no_fault_head check checks e) (no_fault_all checks (no_fault_tail check checks e))

pub no_fault_from : {F : Type 0} (checks : List (Option F)) → All (λ check. check ≡ None) checks → first_fault checks ≡ None
no_fault_from [] none = refl
no_fault_from (check ∷ checks) none =
    no_fault_cons check checks (All-head (λ check. check ≡ None) check checks none)
    (no_fault_from checks (All-tail (λ check. check ≡ None) check checks none))

pub no_fault_at : {F : Type 0} (checks : List (Option F)) (k : ℕ) (check : Option F) → first_fault checks ≡ None
    → slice_get checks k ≡ Some check → check ≡ None
no_fault_at [] k check e there = cc
no_fault_at (first ∷ checks) zero check e there = sym (same_some first check there) ∙ no_fault_head first checks e
no_fault_at (first ∷ checks) (suc k) check e there = no_fault_at checks k check (no_fault_tail first checks e) there

-- One fault behind the other

pub first_fault_append_none : {F : Type 0} (xs ys : List (Option F)) → first_fault xs ≡ None → first_fault (xs ++ ys) ≡ first_fault ys
first_fault_append_none [] ys e = refl
first_fault_append_none (None ∷ xs) ys e = first_fault_append_none xs ys e
first_fault_append_none (Some fault ∷ xs) ys e = cc

pub first_fault_append_some : {F : Type 0} (xs ys : List (Option F)) (fault : F) → first_fault xs ≡ Some fault
    → first_fault (xs ++ ys) ≡ Some fault
first_fault_append_some [] ys fault e = cc
first_fault_append_some (None ∷ xs) ys fault e = first_fault_append_some xs ys fault e
first_fault_append_some (Some found ∷ xs) ys fault e = e

-- A check for each number of a range

pub no_fault_between : {F : Type 0} (fault : ℕ → Option F) (i n : ℕ) → first_fault (map fault (range_with_len i n)) ≡ None → (j : ℕ)
    → i ≤ j → j < i + n → fault j ≡ None
no_fault_between fault i zero e j from to = absurd (omega arith)
no_fault_between fault i (suc n) e j from to =
    let later = no_fault_tail (fault i) (map fault (range_with_len (i + 1) n)) e in
    elim (first_or_later i j from) [
      | inl same ↦ ap fault (sym same) ∙ no_fault_head (fault i) (map fault (range_with_len (i + 1) n)) e
      | inr past ↦ no_fault_between fault (i + 1) n later j past (omega arith)
    ]

pub no_fault_from_between : {F : Type 0} (fault : ℕ → Option F) (i n : ℕ) → ((j : ℕ) → i ≤ j → j < i + n → fault j ≡ None)
    → first_fault (map fault (range_with_len i n)) ≡ None
no_fault_from_between fault i zero none = refl
no_fault_from_between fault i (suc n) none =
    no_fault_cons (fault i) (map fault (range_with_len (i + 1) n)) (none i (omega arith) (omega arith))
    (no_fault_from_between fault (i + 1) n (λ j from to. none j (omega arith) (omega arith)))

-- the fault of the least number that has one
pub first_fault_least : {F : Type 0} (fault : ℕ → Option F) (i n j : ℕ) (found : F) → i ≤ j → j < i + n → ((k : ℕ) → i ≤ k → k < j
    → fault k ≡ None) → fault j ≡ Some found → first_fault (map fault (range_with_len i n)) ≡ Some found
first_fault_least fault i zero j found from to before here = absurd (omega arith)
first_fault_least fault i (suc n) j found from to before here =
    elim (first_or_later i j from) [
      | inl same ↦ let first : fault i ≡ Some found = ap fault same ∙ here in rw first refl
      | inr past ↦
          let none : fault i ≡ None = before i (omega arith) (omega arith) in
          let later = first_fault_least fault (i + 1) n j found past (omega arith) (λ k from to. before k (omega arith) to) here in
          rw none later
    ]
