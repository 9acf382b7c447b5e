-- Laws of slots that differ and aren't taken.
use Rattle.std.proofs.Common.{◌≡◌, ℕ, ◌==◌, inl, inr, Bool, true, false, not, ◌||◌, List, [], ◌∷◌, ◌++◌, refl, sym, ap, ◌∙◌}
use Rattle.std.proofs.lemmas.Bool.{and_parts, and_from, and_left, and_right, or_cases, or_parts, or_from}
use Rattle.std.proofs.lemmas.Bool.{or_left, or_right, not-true, not_from_true, not_from_false, eqb-true}
use Rattle.std.proofs.lemmas.Bool.{ne_eqb, eqb-false, eq-eqb}
use Rattle.std.proofs.lemmas.List.Folds.{list_any-append, list_all-append}
use Rattle.std.specs.List.{list_all}
use Rattle.jm_form.specs.Greedy.{is_among, differ, are_free}

pub among_append : (xs ys : List ℕ) (slot : ℕ) → is_among (xs ++ ys) slot ≡ (is_among xs slot || is_among ys slot)
among_append xs ys slot = list_any-append (λ other. other == slot) xs ys

-- a test that each element passes
all_at : (p : ℕ → Bool) (xs : List ℕ) (x : ℕ) → list_all p xs ≡ true → is_among xs x ≡ true → p x ≡ true
all_at p [] x all there = cc
all_at p (y ∷ xs) x all there =
    let parts = and_parts (p y) (list_all p xs) all in
    elim (or_cases (y == x) (is_among xs x) there) [
      | inl here ↦ ap p (sym (eqb-true y x here)) ∙ parts.0
      | inr later ↦ all_at p xs x parts.1 later
    ]

-- slots that are free aren't among those that are taken
pub free_untaken : (taken slots : List ℕ) (slot : ℕ) → are_free taken slots ≡ true → is_among slots slot ≡ true
    → is_among taken slot ≡ false
free_untaken taken slots slot free there =
    not-true (is_among taken slot) (all_at (λ s. not (is_among taken s)) slots slot
    (and_parts (differ slots) (list_all (λ s. not (is_among taken s)) slots) free).1 there)

flips : (a b : ℕ) → a == b ≡ false → b == a ≡ false
flips a b apart = ne_eqb b a (λ same. eqb-false a b apart (sym same))

-- one slot more that isn't among them
differ_more : (slots : List ℕ) (slot : ℕ) → differ slots ≡ true → is_among slots slot ≡ false → differ (slots ++ slot ∷ []) ≡ true
differ_more [] slot differs new = refl
differ_more (s ∷ slots) slot differs new =
    let parts = and_parts (not (is_among slots s)) (differ slots) differs in
    let news = or_parts (s == slot) (is_among slots slot) new in
    let apart : is_among (slots ++ slot ∷ []) s ≡ false =
    among_append slots (slot ∷ []) s ∙ or_from (is_among slots s) (is_among (slot ∷ []) s) (not-true (is_among slots s) parts.0)
    (or_from (slot == s) false (flips s slot news.0) refl) in
    and_from (not (is_among (slots ++ slot ∷ []) s)) (differ (slots ++ slot ∷ [])) (not_from_false (is_among (slots ++ slot ∷ []) s)
    apart) (differ_more slots slot parts.1 news.1)

pub free_more : (taken slots : List ℕ) (slot : ℕ) → are_free taken slots ≡ true → is_among (slots ++ taken) slot ≡ false
    → are_free taken (slots ++ slot ∷ []) ≡ true
free_more taken slots slot free new =
    let untaken : ℕ → Bool = λ s. not (is_among taken s) in
    let parts = and_parts (differ slots) (list_all untaken slots) free in
    let news = or_parts (is_among slots slot) (is_among taken slot) (sym (among_append slots taken slot) ∙ new) in
    and_from (differ (slots ++ slot ∷ [])) (list_all untaken (slots ++ slot ∷ [])) (differ_more slots slot parts.0 news.0)
    (list_all-append untaken slots (slot ∷ []) ∙ and_from (list_all untaken slots) (list_all untaken (slot ∷ [])) parts.1
    (and_from (untaken slot) true (not_from_false (is_among taken slot) news.1) refl))

-- a slot that comes twice
differ_twice : (front back : List ℕ) (slot : ℕ) → is_among front slot ≡ true → differ (front ++ slot ∷ back) ≡ false
differ_twice [] back slot there = cc
differ_twice (s ∷ front) back slot there =
    let rest = front ++ slot ∷ back in
    elim (or_cases (s == slot) (is_among front slot) there) [
      | inl here ↦
          let again : is_among rest s ≡ true =
          among_append front (slot ∷ back) s ∙ or_right (is_among front s) (is_among (slot ∷ back) s)
          (or_left (slot == s) (is_among back s) (eq-eqb slot s (sym (eqb-true s slot here)))) in
          and_left (not (is_among rest s)) (differ rest) (not_from_true (is_among rest s) again)
      | inr later ↦ and_right (not (is_among rest s)) (differ rest) (differ_twice front back slot later)
    ]

-- a slot that comes twice, or that is taken, isn't free
pub not_free : (taken front back : List ℕ) (slot : ℕ) → is_among (front ++ taken) slot ≡ true
    → are_free taken (front ++ slot ∷ back) ≡ false
not_free taken front back slot there =
    let untaken : ℕ → Bool = λ s. not (is_among taken s) in
    let slots = front ++ slot ∷ back in
    elim (or_cases (is_among front slot) (is_among taken slot) (sym (among_append front taken slot) ∙ there)) [
      | inl twice ↦ and_left (differ slots) (list_all untaken slots) (differ_twice front back slot twice)
      | inr is_taken ↦
          and_right (differ slots) (list_all untaken slots)
          (list_all-append untaken front (slot ∷ back) ∙ and_right (list_all untaken front) (list_all untaken (slot ∷ back))
          (and_left (untaken slot) (list_all untaken back) (not_from_true (is_among taken slot) is_taken)))
    ]
