-- A closure of modules has one answer.
use Rattle.std.proofs.Common.{◌≡◌, ◌≢◌, ◌<◌, ℕ, zero, suc, ◌+◌, List, [], ◌∷◌, length, AllPairs, Contains}
use Rattle.std.proofs.Common.{Some, Result, Ok, Err, slice_get, refl, sym, ap, ◌∙◌, subst, arith}
use Rattle.std.proofs.lemmas.List.Elements.{All-cons, All-contains, All-nil}
use Rattle.std.proofs.lemmas.List.Kept.{AllPairs-cons}
use Rattle.std.proofs.lemmas.Map.Text.{is_eq-slice_cmp}
use Rattle.std.proofs.lemmas.Slice.Eq.{bytes_eq-Decides}
use Rattle.std.specs.Cmp.Lexicographic.{slice_cmp, nat_list_cmp_total}
use Rattle.std.specs.Ordering.{is_eq, is_le, nat_cmp, ordering_reverse}
use Rattle.std.specs.Prelude.{true, IsTrue}
use Rattle.std.specs.declared.cmp.Ordering.{Ordering}
use Rattle.std.specs.declared.cmp.Ordering.TheVariants.{Less, Equal, Greater}
use Rattle.jm_bytes.proofs.ByteOrderLaws.{less}
use Rattle.jm_bytes.proofs.Choice.{same_some}
use Rattle.jm_bytes.proofs.Members.{element_at, all_from_contains, contains_here, contains_later}
use Rattle.jm_bytes.proofs.Pairs.{pairs_head, pairs_none}
use Rattle.jm_bytes.proofs.SameOrder.{same_order}
use Rattle.jm_closure.specs.declared.candidate.Candidate.{Candidate}
use Rattle.jm_closure.specs.declared.fault.CloseFault.{CloseFault}
use Rattle.jm_closure.specs.declared.fault.CloseFault.TheVariants as fault
use Rattle.jm_closure.specs.Modules.{name_of, Leads, Reached, Requires}
use Rattle.jm_closure.proofs.NameLaws.{within_found}
use Rattle.jm_closure.specs.Refusals.{AreChosen, Closes, Holds, IsAtMost, IsLeast, SplitsAt}

-- Least texts

equal_both : (o : Ordering) → IsTrue (is_le o) → IsTrue (is_le (ordering_reverse o)) → is_eq o ≡ true
equal_both Less one other = cc
equal_both Equal one other = refl
equal_both Greater one other = cc

-- two texts, each at most the other, are one
at_most_each : (a b : List ℕ) → IsAtMost a b → IsAtMost b a → a ≡ b
at_most_each a b one other =
    let turned = subst (λ o. IsTrue (is_le o)) (nat_list_cmp_total.antisymm b a) other in
    (bytes_eq-Decides a b).0 (sym (is_eq-slice_cmp a b) ∙ equal_both (slice_cmp nat_cmp a b) one turned)

-- of the texts with a property one is the least
pub least_once : (P : List ℕ → Type 0) (a b : List ℕ) → IsLeast P a → IsLeast P b → a ≡ b
least_once P a b one other = at_most_each a b (one.1 b other.0) (other.1 a one.0)

-- Places that rise by name

-- the modules at two places, the first with the lesser name
record Rises (found : List Candidate) (i j : ℕ) : Type 0 where
  first : Candidate
  second : Candidate
  at : slice_get found i ≡ Some first
  later : slice_get found j ≡ Some second
  less : slice_cmp nat_cmp (name_of first) (name_of second) ≡ Less

rises_on : (found : List Candidate) (i j k : ℕ) → Rises found i j → Rises found j k → Rises found i k
rises_on found i j k one other =
    let middle : one.second ≡ other.first = same_some one.second other.first (sym one.later ∙ other.at) in
    record {
      first = one.first;
      second = other.second;
      at = one.at;
      later = other.later;
      less = nat_list_cmp_total.trans (name_of one.first) (name_of one.second) (name_of other.second) one.less (rw middle other.less);
    }

never_both : (found : List Candidate) (i j : ℕ) → Rises found i j → Rises found j i → ⊥
never_both found i j one other =
    let loop = rises_on found i j i one other in
    let same : loop.first ≡ loop.second = same_some loop.first loop.second (sym loop.at ∙ loop.later) in
    let itself : slice_cmp nat_cmp (name_of loop.second) (name_of loop.second) ≡ Less =
    subst (λ (c : Candidate). slice_cmp nat_cmp (name_of c) (name_of loop.second) ≡ Less) same loop.less in
    no (sym itself ∙ nat_list_cmp_total.antisymm (name_of loop.second) (name_of loop.second) ∙ ap ordering_reverse itself)
  where
    no : ◌≡◌ {A = Ordering} Less Greater → ⊥
    no is = cc

-- places of which each rises to the next rise to all later ones
chain : (found : List Candidate) (places : List ℕ) → ((k i j : ℕ) → slice_get places k ≡ Some i → slice_get places (suc k) ≡ Some j
    → Rises found i j) → AllPairs (Rises found) places
chain found [] next = pairs_none (Rises found)
chain found (i ∷ []) next = AllPairs-cons (Rises found) i [] (All-nil (Rises found i)) (pairs_none (Rises found))
chain found (i ∷ j ∷ places) next =
    let rest = chain found (j ∷ places) (λ k. next (suc k)) in
    let first = next zero i j refl refl in
    let behind = pairs_head (Rises found) j places rest in
    AllPairs-cons (Rises found) i (j ∷ places) (All-cons (Rises found i) j places first (all_from_contains (Rises found i) places
    (λ k has. rises_on found i j k first (All-contains (Rises found j) places k behind has)))) rest

got : (places : List ℕ) (k i : ℕ) → slice_get places k ≡ Some i → Contains places i
got [] k i is = cc
got (p ∷ places) zero i is = subst (Contains (p ∷ places)) (same_some p i is) (contains_here p places)
got (p ∷ places) (suc k) i is = contains_later p places i (got places k i is)

module _ (found : List Candidate) (Chosen : ℕ → Type 0) (within : (i : ℕ) → Chosen i → i < length found) where
  chosen_rise : (places : List ℕ) → AreChosen found Chosen places → AllPairs (Rises found) places
  chosen_rise places chosen = chain found places step
    where
      step : (k i j : ℕ) → slice_get places k ≡ Some i → slice_get places (suc k) ≡ Some j → Rises found i j
      step k i j at later =
          let one = element_at found i (within i ((chosen.exactly i).0 (got places k i at))) in
          let other = element_at found j (within j ((chosen.exactly j).0 (got places (suc k) j later))) in
          let next : suc k ≡ k + 1 = omega arith in
          record {
            first = one.0;
            second = other.0;
            at = one.1;
            later = other.1;
            less = less _ (chosen.rising k i j one.0 other.0 at (subst (λ n. slice_get places n ≡ Some j) next later) one.1 other.1);
          }

  -- the chosen places that rise by name are one list
  pub chosen_once : (a b : List ℕ) → AreChosen found Chosen a → AreChosen found Chosen b → a ≡ b
  chosen_once a b one other =
      same_order (Rises found) (never_both found) a b (chosen_rise a one) (chosen_rise b other) (λ i has. (other.exactly i).1
      ((one.exactly i).0 has)) (λ i has. (one.exactly i).1 ((other.exactly i).0 has))

  split_once : (shared first second shared' first' second' : List ℕ) → SplitsAt found Chosen shared first second
      → SplitsAt found Chosen shared' first' second' → ◌≡◌ {A = CloseFault} (fault.SplitPackage shared first second)
      (fault.SplitPackage shared' first' second')
  split_once shared first second shared' first' second' one other =
      let same = least_once _ shared shared' one.least other.least in
      let holder = least_once (Holds found Chosen shared') first first' (rw same at one.holder) other.holder in
      let another = least_once (λ name. (name ≢ first') × Holds found Chosen shared' name) second second'
      (rw (same, holder) at one.another) other.another in
      rw (same, holder, another) refl

  -- two answers are one
  pub closes_once : (roots : List (List ℕ)) (a b : Result (List ℕ) CloseFault)
      → Closes found roots Chosen a → Closes found roots Chosen b → a ≡ b
  closes_once roots (Ok a) (Ok b) x y = ap Ok (chosen_once a b x.4 y.4)
  closes_once roots (Ok a) (Err (fault.NoRoot name)) x y = absurd (x.0 name y.0)
  closes_once roots (Ok a) (Err (fault.Missing name by)) x y = absurd (x.1 name y.1.0)
  closes_once roots (Ok a) (Err (fault.Cycle name)) x y = absurd (x.2 name y.2.0)
  closes_once roots (Ok a) (Err (fault.SplitPackage shared first second)) x y = absurd (x.3 shared y.3.least.0)
  closes_once roots (Err (fault.NoRoot name)) (Ok b) x y = absurd (y.0 name x.0)
  closes_once roots (Err (fault.NoRoot name)) (Err (fault.NoRoot name')) x y = ap (λ n. Err (fault.NoRoot n))
      (least_once _ name name' x y)
  closes_once roots (Err (fault.NoRoot name)) (Err (fault.Missing name' by)) x y = absurd (y.0 name x.0)
  closes_once roots (Err (fault.NoRoot name)) (Err (fault.Cycle name')) x y = absurd (y.0 name x.0)
  closes_once roots (Err (fault.NoRoot name)) (Err (fault.SplitPackage shared first second)) x y = absurd (y.0 name x.0)
  closes_once roots (Err (fault.Missing name by)) (Ok b) x y = absurd (y.1 name x.1.0)
  closes_once roots (Err (fault.Missing name by)) (Err (fault.NoRoot name')) x y = absurd (x.0 name' y.0)
  closes_once roots (Err (fault.Missing name by)) (Err (fault.Missing name' by')) x y =
      let same = least_once _ name name' x.1 y.1 in
      let lacks = least_once _ by by' (rw same at x.2) y.2 in
      rw (same, lacks) refl
  closes_once roots (Err (fault.Missing name by)) (Err (fault.Cycle name')) x y = absurd (y.1 name x.1.0)
  closes_once roots (Err (fault.Missing name by)) (Err (fault.SplitPackage shared first second)) x y =
      absurd (y.1 name x.1.0)
  closes_once roots (Err (fault.Cycle name)) (Ok b) x y = absurd (y.2 name x.2.0)
  closes_once roots (Err (fault.Cycle name)) (Err (fault.NoRoot name')) x y = absurd (x.0 name' y.0)
  closes_once roots (Err (fault.Cycle name)) (Err (fault.Missing name' by)) x y = absurd (x.1 name' y.1.0)
  closes_once roots (Err (fault.Cycle name)) (Err (fault.Cycle name')) x y = ap (λ n. Err (fault.Cycle n))
      (least_once _ name name' x.2 y.2)
  closes_once roots (Err (fault.Cycle name)) (Err (fault.SplitPackage shared first second)) x y = absurd (y.2 name x.2.0)
  closes_once roots (Err (fault.SplitPackage shared first second)) (Ok b) x y = absurd (y.3 shared x.3.least.0)
  closes_once roots (Err (fault.SplitPackage shared first second)) (Err (fault.NoRoot name)) x y = absurd (x.0 name y.0)
  closes_once roots (Err (fault.SplitPackage shared first second)) (Err (fault.Missing name by)) x y =
      absurd (x.1 name y.1.0)
  closes_once roots (Err (fault.SplitPackage shared first second)) (Err (fault.Cycle name)) x y = absurd (x.2 name y.2.0)
  closes_once roots (Err (fault.SplitPackage shared first second)) (Err (fault.SplitPackage shared' first' second')) x y =
      ap Err (split_once shared first second shared' first' second' x.3 y.3)

-- what is reached is found
led_found : (found : List Candidate) (i : ℕ) (places : List ℕ) (j : ℕ) → i < length found → Leads (Requires found) i places j
    → j < length found
led_found found i [] j inside same = subst (λ k. k < length found) same inside
led_found found i (k ∷ places) j inside (required, leads) =
    led_found found k places j (within_found found k required.2.0 required.2.1) leads

pub reached_found : (found : List Candidate) (roots : List (List ℕ)) (j : ℕ) → Reached found roots j → j < length found
reached_found found roots j (i, places, (name, rooted, named), leads) =
    led_found found i places j (within_found found i named.0 named.1) leads
