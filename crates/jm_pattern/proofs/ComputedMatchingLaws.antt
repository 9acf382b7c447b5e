-- The value that is computed is true exactly where the signs match.
use Rattle.std.proofs.Common.{◌≡◌, ◌≢◌, ◌==◌, ◌↔◌, IsTrue, ◌++◌, ◌∷◌, ◌⊎◌, inl, inr, [], ℕ, Bool, true, false}
use Rattle.std.proofs.Common.{cond, List, All, Contains, refl, sym, ap, subst}
use Rattle.std.proofs.lemmas.Bool.{eqb-true, eqb-false, eq-eqb, ne_eqb, false≢true}
use Rattle.std.proofs.lemmas.List.Elements.{All-nil, All-cons, All-head, All-tail}
use Rattle.jm_bytes.proofs.Members.{contains_none, contains_here, contains_later, contains_cases, any_contains, from_any}
use Rattle.jm_pattern.specs.Matching.{StandsFor, Match}
use Rattle.jm_pattern.specs.ComputedMatching.{behind_any, behind_run, left_by, matches}
use Rattle.jm_pattern.specs.declared.signs.Sign.{Sign}
use Rattle.jm_pattern.specs.declared.signs.Sign.TheVariants.{AnyRun, Run, One, Byte}

-- a name is a run that the sign stands for and this rest
abbrev Leaves : Sign → List ℕ → List ℕ → Type 0
Leaves sign name rest = (run : List ℕ) × (name ≡ run ++ rest) × StandsFor sign run

-- From the rule to the value

any-left : (run rest : List ℕ) → Contains (behind_any (run ++ rest)) rest
any-left [] [] = contains_here [] []
any-left [] (b ∷ rest) = contains_here (b ∷ rest) (behind_any rest)
any-left (b ∷ run) rest = contains_later (b ∷ (run ++ rest)) (behind_any (run ++ rest)) rest (any-left run rest)

run-left : (run rest : List ℕ) → All (λ b. b ≢ 47) run → Contains (behind_run (run ++ rest)) rest
run-left [] [] own = contains_here [] []
run-left [] (b ∷ rest) own = contains_here (b ∷ rest) (cond (b == 47) [] (behind_run rest))
run-left (b ∷ run) rest own =
    let whole = b ∷ (run ++ rest) in
    let later = run-left run rest (All-tail (λ b. b ≢ 47) b run own) in
    let other = ne_eqb b 47 (All-head (λ b. b ≢ 47) b run own) in
    subst (λ slash. Contains (whole ∷ cond slash [] (behind_run (run ++ rest))) rest) (sym other)
    (contains_later whole (behind_run (run ++ rest)) rest later)

left-run : (sign : Sign) (run rest : List ℕ) → StandsFor sign run → Contains (left_by sign (run ++ rest)) rest
left-run AnyRun run rest own = any-left run rest
left-run Run run rest own = run-left run rest own
left-run One run rest (b, other, is) = rw (is, ne_eqb b 47 other) (contains_here rest [])
left-run (Byte b) run rest is = rw (is, eq-eqb b b refl) (contains_here rest [])

pub match-matches : (signs : List Sign) (name : List ℕ) → Match signs name → matches signs name ≡ true
match-matches [] name whole = rw whole refl
match-matches (sign ∷ signs) name (run, rest, is, own, more) =
    rw is (any_contains (matches signs) (left_by sign (run ++ rest)) rest (left-run sign run rest own) (match-matches signs rest more))

-- From the value to the rule

one-more : (sign : Sign) (b : ℕ) (name rest : List ℕ) → ((run : List ℕ) → StandsFor sign run → StandsFor sign (b ∷ run))
    → Leaves sign name rest → Leaves sign (b ∷ name) rest
one-more sign b name rest longer (run, is, own) = (b ∷ run, ap (λ x. b ∷ x) is, longer run own)

left-any : (name rest : List ℕ) → Contains (behind_any name) rest → Leaves AnyRun name rest
left-any [] rest there =
    elim (contains_cases [] [] rest there) [
      | inl same ↦ ([], same, tt)
      | inr later ↦ absurd (contains_none rest later)
    ]
left-any (b ∷ name) rest there =
    elim (contains_cases (b ∷ name) (behind_any name) rest there) [
      | inl same ↦ ([], same, tt)
      | inr later ↦ one-more AnyRun b name rest (λ run own. tt) (left-any name rest later)
    ]

left-slash_free : (name rest : List ℕ) → Contains (behind_run name) rest → Leaves Run name rest
left-slash_free [] rest there =
    elim (contains_cases [] [] rest there) [
      | inl same ↦ ([], same, All-nil (λ b. b ≢ 47))
      | inr later ↦ absurd (contains_none rest later)
    ]
left-slash_free (b ∷ name) rest there = go (b == 47) refl (contains_cases (b ∷ name) (cond (b == 47) [] (behind_run name)) rest
    there) (left-slash_free name rest)
  where
    go : (slash : Bool) → b == 47 ≡ slash → (b ∷ name ≡ rest) ⊎ Contains (cond slash [] (behind_run name)) rest
        → (Contains (behind_run name) rest → Leaves Run name rest) → Leaves Run (b ∷ name) rest
    go slash e (inl same) more = ([], same, All-nil (λ b. b ≢ 47))
    go true e (inr later) more = absurd (contains_none rest later)
    go false e (inr later) more = one-more Run b name rest (λ run own. All-cons (λ b. b ≢ 47) b run (eqb-false b 47 e) own) (more later)

left-one : (sign : Sign) (b : ℕ) (name rest : List ℕ) → StandsFor sign (b ∷ []) → Contains (name ∷ []) rest → Leaves sign (b ∷ name) rest
left-one sign b name rest own there =
    elim (contains_cases name [] rest there) [
      | inl same ↦ (b ∷ [], ap (λ x. b ∷ x) same, own)
      | inr later ↦ absurd (contains_none rest later)
    ]

run-left_by : (sign : Sign) (name rest : List ℕ) → Contains (left_by sign name) rest → Leaves sign name rest
run-left_by AnyRun name rest there = left-any name rest there
run-left_by Run name rest there = left-slash_free name rest there
run-left_by One [] rest there = absurd (contains_none rest there)
run-left_by One (b ∷ name) rest there = go (b == 47) refl there
  where
    go : (slash : Bool) → b == 47 ≡ slash → Contains (cond slash [] (name ∷ [])) rest → Leaves One (b ∷ name) rest
    go true e there = absurd (contains_none rest there)
    go false e there = left-one One b name rest (b, eqb-false b 47 e, refl) there
run-left_by (Byte own) [] rest there = absurd (contains_none rest there)
run-left_by (Byte own) (b ∷ name) rest there = go (b == own) refl there
  where
    go : (same : Bool) → b == own ≡ same → Contains (cond same (name ∷ []) []) rest → Leaves (Byte own) (b ∷ name) rest
    go true e there = left-one (Byte own) b name rest (ap (λ x. x ∷ []) (eqb-true b own e)) there
    go false e there = absurd (contains_none rest there)

pub matches-match : (signs : List Sign) (name : List ℕ) → matches signs name ≡ true → Match signs name
matches-match [] [] is_true = refl
matches-match [] (b ∷ name) is_true = absurd (false≢true is_true)
matches-match (sign ∷ signs) name is_true =
    let left = from_any (matches signs) (left_by sign name) is_true in
    let own = run-left_by sign name left.0 left.1 in
    (own.0, left.0, own.1, own.2, matches-match signs left.0 left.2)

-- both ways
pub matches-iff : (signs : List Sign) (name : List ℕ) → (matches signs name ≡ true) ↔ Match signs name
matches-iff signs name = (matches-match signs name, match-matches signs name)

-- a test that is true exactly where the signs match is that value
pub test-matches : (test : Bool) (signs : List Sign) (name : List ℕ) → (IsTrue test ↔ Match signs name) → test ≡ matches signs name
test-matches true signs name (from, to) = sym (match-matches signs name (from refl))
test-matches false signs name (from, to) = go (matches signs name) refl
  where
    go : (value : Bool) → matches signs name ≡ value → false ≡ value
    go true e = to (matches-match signs name e)
    go false e = refl
