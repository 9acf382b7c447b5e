-- The rule of seeds that fit, and its test.
use Rattle.std.proofs.Common.{◌≡◌, ◌≢◌, ℕ, ◌%◌, ◌==◌, ◌<◌, true, false, not, cond, List, [], ◌∷◌, Some, None}
use Rattle.std.proofs.Common.{map, All, AllPairs, Contains, refl, sym, ap, ◌∙◌, subst, arith}
use Rattle.std.proofs.lemmas.Bool.{false≢true, and_parts, and_from, not-true, not_from_false, eqb-true, eq-eqb, lt-ltb, false_from_ne_true}
use Rattle.std.proofs.lemmas.List.Elements.{All-nil, All-cons, All-head, All-tail, All-contains}
use Rattle.std.proofs.lemmas.List.Kept.{AllPairs-cons}
use Rattle.std.specs.List.{list_all, cons_option}
use Rattle.jm_bytes.proofs.Members.{any_contains, from_any, contains_map, from_map, all_from_contains}
use Rattle.jm_bytes.proofs.Pairs.{pairs_none, pairs_head, pairs_tail}
use Rattle.jm_names.specs.Hash.{hash}
use Rattle.jm_form.specs.declared.table.Redirect.TheVariants as redirect
use Rattle.jm_form.specs.Greedy.{Fits, fits, is_among, differ, are_free, slots_led}

among_contains : (slots : List ℕ) (slot : ℕ) → is_among slots slot ≡ true → Contains slots slot
among_contains slots slot there =
    let one = from_any (λ other. other == slot) slots there in
    subst (Contains slots) (eqb-true one.0 slot one.2) one.1

contains_among : (slots : List ℕ) (slot : ℕ) → Contains slots slot → is_among slots slot ≡ true
contains_among slots slot there = any_contains (λ other. other == slot) slots slot there (eq-eqb slot slot refl)

-- a seed leads each name to its hash in the table
led_by_seed : (slots seed : ℕ) (names : List (List ℕ)) → 0 < slots → slots_led slots (redirect.Seed seed) names
    ≡ map (λ name. hash seed name % slots) names
led_by_seed slots seed [] some = refl
led_by_seed slots seed (name ∷ names) some =
    let below : hash seed name % slots < slots = omega arith in
    ap (λ b. cons_option (cond b (Some (hash seed name % slots)) None) (slots_led slots (redirect.Seed seed) names))
    (lt-ltb (hash seed name % slots) slots below) ∙ ap (λ l. (hash seed name % slots) ∷ l) (led_by_seed slots seed names some)

module _ (f : List ℕ → ℕ) where
  differ_rule : (names : List (List ℕ)) → differ (map f names) ≡ true → AllPairs (λ one other. f one ≢ f other) names
  differ_rule [] differs = pairs_none (λ one other. f one ≢ f other)
  differ_rule (name ∷ names) differs =
      let parts = and_parts (not (is_among (map f names) (f name))) (differ (map f names)) differs in
      let new = not-true (is_among (map f names) (f name)) parts.0 in
      AllPairs-cons (λ one other. f one ≢ f other) name names
      (all_from_contains (λ other. f name ≢ f other) names (λ other there same. false≢true (sym new
      ∙ ap (is_among (map f names)) same ∙ contains_among (map f names) (f other) (contains_map f names other there))))
      (differ_rule names parts.1)

  rule_differ : (names : List (List ℕ)) → AllPairs (λ one other. f one ≢ f other) names → differ (map f names) ≡ true
  rule_differ [] pairs = refl
  rule_differ (name ∷ names) pairs =
      let head = pairs_head (λ one other. f one ≢ f other) name names pairs in
      let new : is_among (map f names) (f name) ≡ false = false_from_ne_true (is_among (map f names) (f name)) (λ there.
      let one = from_map f names (f name) (among_contains (map f names) (f name) there) in
      All-contains (λ other. f name ≢ f other) names one.0 head one.1 (sym one.2)) in
      and_from (not (is_among (map f names) (f name))) (differ (map f names)) (not_from_false (is_among (map f names) (f name)) new)
      (rule_differ names (pairs_tail (λ one other. f one ≢ f other) name names pairs))

  free_rule : (taken : List ℕ) (names : List (List ℕ)) → list_all (λ slot. not (is_among taken slot)) (map f names) ≡ true
      → All (λ name. ¬ Contains taken (f name)) names
  free_rule taken [] free = All-nil (λ name. ¬ Contains taken (f name))
  free_rule taken (name ∷ names) free =
      let parts = and_parts (not (is_among taken (f name))) (list_all (λ slot. not (is_among taken slot)) (map f names)) free in
      All-cons (λ n. ¬ Contains taken (f n)) name names
      (λ there. false≢true (sym (not-true (is_among taken (f name)) parts.0) ∙ contains_among taken (f name) there))
      (free_rule taken names parts.1)

  rule_free : (taken : List ℕ) (names : List (List ℕ)) → All (λ name. ¬ Contains taken (f name)) names
      → list_all (λ slot. not (is_among taken slot)) (map f names) ≡ true
  rule_free taken [] free = refl
  rule_free taken (name ∷ names) free =
      let new : is_among taken (f name) ≡ false = false_from_ne_true (is_among taken (f name))
      (λ there. All-head (λ n. ¬ Contains taken (f n)) name names free (among_contains taken (f name) there)) in
      and_from (not (is_among taken (f name))) (list_all (λ slot. not (is_among taken slot)) (map f names))
      (not_from_false (is_among taken (f name)) new) (rule_free taken names (All-tail (λ n. ¬ Contains taken (f n)) name names free))

-- what passes the test fits
pub fits_rule : (names : List (List ℕ)) (slots seed : ℕ) (taken : List ℕ) → 0 < slots → fits slots taken names seed ≡ true
    → Fits names slots seed taken
fits_rule names slots seed taken some passes =
    let f : List ℕ → ℕ = λ name. hash seed name % slots in
    let free = sym (ap (are_free taken) (led_by_seed slots seed names some)) ∙ passes in
    let parts = and_parts (differ (map f names)) (list_all (λ slot. not (is_among taken slot)) (map f names)) free in
    record {
      below = λ k d inside. omega arith;
      differ = differ_rule f names parts.0;
      free = free_rule f taken names parts.1;
    }

-- what fits passes the test
pub rule_fits : (names : List (List ℕ)) (slots seed : ℕ) (taken : List ℕ) → 0 < slots → Fits names slots seed taken
    → fits slots taken names seed ≡ true
rule_fits names slots seed taken some rule =
    let f : List ℕ → ℕ = λ name. hash seed name % slots in
    ap (are_free taken) (led_by_seed slots seed names some) ∙ and_from (differ (map f names))
    (list_all (λ slot. not (is_among taken slot)) (map f names)) (rule_differ f names rule.differ) (rule_free f taken names rule.free)
