-- The least slot that isn't taken, looked for from a place on in front of which all are.
use Rattle.std.proofs.Common.{◌≡◌, ℕ, zero, suc, ◌+◌, ◌-◌, ◌<◌, ◌≤◌, ◌⊎◌, inl, inr, Bool, true, false, not}
use Rattle.std.proofs.Common.{cond, List, [], ◌∷◌, Some, length, get_or, refl, sym, ap, ◌∙◌, arith}
use Rattle.std.proofs.lemmas.Bool.{not-false, not_from_true, lt-ltb, cases_lt}
use Rattle.std.specs.List.{find, range_with_len}
use Rattle.jm_bytes.proofs.Choice.{same_some}
use Rattle.jm_form.specs.declared.table.Redirect.TheVariants as redirect
use Rattle.jm_form.specs.Greedy.{is_among, least_free, slots_led}
use Rattle.jm_redirect.specs.Marks.{Marks, TakenBelow}

-- two tests with the same answers
find_agree : (p q : ℕ → Bool) (i n : ℕ) → ((k : ℕ) → i ≤ k → k < i + n → p k ≡ q k) → find p (range_with_len i n)
    ≡ find q (range_with_len i n)
find_agree p q i zero same = refl
find_agree p q i (suc n) same =
    ap (λ b. cond b (Some i) (find p (range_with_len (i + 1) n))) (same i (omega arith) (omega arith))
    ∙ ap (cond (q i) (Some i)) (find_agree p q (i + 1) n (λ k from to. same k (omega arith) (omega arith)))

-- numbers that don't pass are passed over
find_behind : (p : ℕ → Bool) (j n : ℕ) → ((k : ℕ) → k < j → p k ≡ false) → find p (range_with_len 0 n) ≡ find p (range_with_len j (n - j))
find_behind p zero n fails = let all : n - 0 ≡ n = omega arith in ap (λ m. find p (range_with_len 0 m)) (sym all)
find_behind p (suc j) n fails = find_behind p j n (λ k below. fails k (omega arith)) ∙ go (cases_lt j n)
  where
    go : (j < n) ⊎ (n ≤ j) → find p (range_with_len j (n - j)) ≡ find p (range_with_len (suc j) (n - suc j))
    go (inl inside) =
        let left : n - j ≡ suc (n - suc j) = omega arith in
        let next : j + 1 ≡ suc j = omega arith in
        ap (λ m. find p (range_with_len j m)) left ∙ ap (λ b. cond b (Some j) (find p (range_with_len (j + 1) (n - suc j))))
        (fails j (omega arith)) ∙ ap (λ i. find p (range_with_len i (n - suc j))) next
    go (inr past) =
        let none : n - j ≡ 0 = omega arith in
        let none_then : n - suc j ≡ 0 = omega arith in
        ap (λ m. find p (range_with_len j m)) none ∙ sym (ap (λ m. find p (range_with_len (suc j) m)) none_then)

-- what is found, and what stands before it
pub record IsFoundFrom (p : ℕ → Bool) (i n s : ℕ) : Type 0 where
  pub from : i ≤ s
  pub to : s < i + n
  pub passes : p s ≡ true
  pub before : (k : ℕ) → i ≤ k → k < s → p k ≡ false

found_from : (p : ℕ → Bool) (i n s : ℕ) → find p (range_with_len i n) ≡ Some s → IsFoundFrom p i n s
found_from p i zero s e = cc
found_from p i (suc n) s e = go (p i) refl e (λ later. found_from p (i + 1) n s later)
  where
    go : (b : Bool) → p i ≡ b → cond b (Some i) (find p (range_with_len (i + 1) n)) ≡ Some s → (find p (range_with_len (i + 1) n)
        ≡ Some s → IsFoundFrom p (i + 1) n s) → IsFoundFrom p i (suc n) s
    go true here e rest =
        let same = same_some i s e in
        record { from = omega arith; to = omega arith; passes = ap p (sym same) ∙ here; before = λ k low high. absurd (omega arith) }
    go false here e rest =
        let later = rest e in
        record {
          from = omega (arith, later.from);
          to = omega (arith, later.to);
          passes = later.passes;
          before = λ k low high. elim (cases_lt i k) [
            | inl behind ↦ later.before k (omega arith) high
            | inr at ↦ let same : i ≡ k = omega arith in ap p (sym same) ∙ here
          ];
        }

-- looked for behind a place in front of which all are taken
pub least_free_from : (flags : List Bool) (before : List ℕ) (free : ℕ) → Marks flags before → TakenBelow free before
    → find (λ slot. not (get_or flags slot false)) (range_with_len free (length flags - free)) ≡ least_free (length flags) before
least_free_from flags before free marks below =
    find_agree (λ slot. not (get_or flags slot false)) (λ slot. not (is_among before slot)) free (length flags - free)
    (λ k from to. ap not (marks.at k (omega arith))) ∙ sym (find_behind (λ slot. not (is_among before slot)) free (length flags)
    (λ k front. not_from_true (is_among before k) (below.below k front)))

-- the free slot that was found
pub free_found : (flags : List Bool) (free slot : ℕ) → find (λ s. not (get_or flags s false))
    (range_with_len free (length flags - free)) ≡ Some slot → slot < length flags
free_found flags free slot e =
    let found = found_from (λ s. not (get_or flags s false)) free (length flags - free) slot e in omega (arith, found.from, found.to)

-- all in front of it are taken
pub taken_below_found : (flags : List Bool) (before : List ℕ) (free slot : ℕ) → Marks flags before → TakenBelow free before
    → find (λ s. not (get_or flags s false)) (range_with_len free (length flags - free)) ≡ Some slot → TakenBelow slot before
taken_below_found flags before free slot marks below e =
    let found = found_from (λ s. not (get_or flags s false)) free (length flags - free) slot e in
    let from = found.from in
    let to = found.to in
    record {
      below = λ k front. elim (cases_lt k free) [
        | inl first ↦ below.below k first
        | inr later ↦ sym (marks.at k (omega arith)) ∙ not-false (get_or flags k false) (found.before k later front)
      ];
    }

-- one name is led to its slot
pub led_single : (slots slot : ℕ) (names : List (List ℕ)) → slot < slots → length names ≡ 1 → slots_led slots (redirect.Slot slot)
    names ≡ slot ∷ []
led_single slots slot [] below one = absurd (omega arith)
led_single slots slot (name ∷ []) below one = rw (lt-ltb slot slots below) refl
led_single slots slot (name ∷ (other ∷ names)) below one = absurd (omega arith)
