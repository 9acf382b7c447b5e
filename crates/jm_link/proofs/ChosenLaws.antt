-- The places of a closure lie within the list of modules, and differ.
use Rattle.std.proofs.Common.{◌≡◌, ◌≢◌, ◌<◌, ℕ, zero, suc, ◌+◌, ◌-◌, Bool, true, false, List, length}
use Rattle.std.proofs.Common.{AllPairs, Contains, Some, Ok, slice_get, refl, sym, ap, ◌∙◌, subst, arith}
use Rattle.std.proofs.lemmas.Bool.{ltb-false, ltb-true}
use Rattle.std.proofs.lemmas.Option.{get_or_from_slice_get, slice_get_within}
use Rattle.std.specs.Cmp.Lexicographic.{slice_cmp, nat_list_cmp_total}
use Rattle.std.specs.List.{range_with_len}
use Rattle.std.specs.Ordering.{nat_cmp, ordering_reverse}
use Rattle.std.specs.Prelude.{nat_lt}
use Rattle.std.specs.declared.cmp.Ordering.{Ordering}
use Rattle.std.specs.declared.cmp.Ordering.TheVariants.{Less, Greater}
use Rattle.jm_bytes.proofs.Choice.{same_some}
use Rattle.jm_bind.specs.Binding.{Bound, IsClosed}
use Rattle.jm_bytes.proofs.Members.{contains_range, from_range}
use Rattle.jm_closure.specs.declared.candidate.Candidate.{Candidate}
use Rattle.jm_closure.proofs.OnceLaws.{reached_found}
use Rattle.jm_closure.specs.Modules.{HasName, Reached, name_of}
use Rattle.jm_closure.specs.Refusals.{AreChosen}
use Rattle.jm_link.specs.Chosen.{Chosen}
use Rattle.jm_link.specs.Closing.{ClosesWith}
use Rattle.jm_modset.proofs.ItemLaws.{got}
use Rattle.jm_bytes.proofs.ByteOrderLaws.{less}
use Rattle.jm_bytes.proofs.Members.{element_at}

named_below : (found : List Candidate) (i : ℕ) (name : List ℕ) → HasName found i name → i < length found
named_below found i name (c, is, named) = slice_get_within found i c is

pub bound_below : (found : List Candidate) (roots : List (List ℕ)) (j : ℕ) → Bound found roots j → j < length found
bound_below found roots j bound =
    let all = from_range 0 (length found) j (bound (range_with_len 0 (length found)) closed) in omega (arith, all.1)
  where
    inside : (k : ℕ) → k < length found → Contains (range_with_len 0 (length found)) k
    inside k within = contains_range 0 (length found) k (omega arith) (omega arith)

    closed : IsClosed found roots (Contains (range_with_len 0 (length found)))
    closed = record {
      rooted = λ i root. inside i (named_below found i root.0 root.2);
      required = λ i k has required. inside k (named_below found k required.0 required.2);
      served = λ i k has served. inside k (slice_get_within found k served.2.0 served.2.1);
    }

-- a chosen module is one of those that were found
pub chosen_below : (bind : Bool) (found : List Candidate) (roots : List (List ℕ)) (i : ℕ) → Chosen bind found roots i → i < length found
chosen_below true found roots i bound = bound_below found roots i bound
chosen_below false found roots i reached = reached_found found roots i reached

never_less : (name : List ℕ) → slice_cmp nat_cmp name name ≡ Less → ⊥
never_less name is = not_both (sym is ∙ nat_list_cmp_total.antisymm name name ∙ ap ordering_reverse is)
  where
    not_both : ◌≡◌ {A = Ordering} Less Greater → ⊥
    not_both same = cc

-- Where modules rise by name, of two places the one of the lesser name is the lesser one

abbrev pub AreRising : List Candidate → Type 0
AreRising found =
    (i j : ℕ) (a b : Candidate) → slice_get found i ≡ Some a → slice_get found j ≡ Some b → i < j
    → slice_cmp nat_cmp (name_of a) (name_of b) ≡ Less

lesser : (found : List Candidate) → AreRising found → (i j : ℕ) (a b : Candidate) → slice_get found i ≡ Some a → slice_get found j
    ≡ Some b → slice_cmp nat_cmp (name_of a) (name_of b) ≡ Less → i < j
lesser found rising i j a b one other less = go (nat_lt i j) refl (nat_lt j i) refl
  where
    not_both : ◌≡◌ {A = Ordering} Less Greater → ⊥
    not_both same = cc

    go : (u : Bool) → nat_lt i j ≡ u → (v : Bool) → nat_lt j i ≡ v → i < j
    go true up v down = ltb-true i j up
    go false up true down = absurd (not_both (sym (rising j i b a other one (ltb-true j i down))
        ∙ nat_list_cmp_total.antisymm (name_of b) (name_of a) ∙ ap ordering_reverse less))
    go false up false down =
        let first = ltb-false i j up in
        let second = ltb-false j i down in
        let same : i ≡ j = omega (arith, first, second) in
        let names = ap name_of (same_some a b (sym one ∙ ap (slice_get found) same ∙ other)) in
        absurd (never_less (name_of b) (subst (λ name. slice_cmp nat_cmp name (name_of b) ≡ Less) names less))

-- Names that rise from one to the next

module _ (found : List Candidate) (Chosen : ℕ → Type 0) (places : List ℕ) (chosen : AreChosen found Chosen places) (within : (i : ℕ)
    → Contains places i → i < length found) where
  -- the place there, with its module
  pub record IsAt (k i : ℕ) : Type 0 where
    pub candidate : Candidate
    pub place : slice_get places k ≡ Some i
    pub is : slice_get found i ≡ Some candidate

  at : (k : ℕ) → k < length places → (i : ℕ) × IsAt k i
  at k inside =
      let one = element_at places k inside in
      let held = element_at found one.0 (within one.0 (got places k one.0 one.1)) in
      (one.0, record { candidate = held.0; place = one.1; is = held.1 })

  rises : (k n : ℕ) → k + suc n < length places → (i j : ℕ) (one : IsAt k i) (other : IsAt (k + suc n) j)
      → slice_cmp nat_cmp (name_of one.candidate) (name_of other.candidate) ≡ Less
  rises k zero inside i j one other = less _ (chosen.rising k i j one.candidate other.candidate one.place other.place one.is other.is)
  rises k (suc n) inside i j one other =
      let middle = at (k + suc n) (omega (arith, inside)) in
      let next : k + suc (suc n) ≡ k + suc n + 1 = omega arith in
      let first = rises k n (omega (arith, inside)) i middle.0 one middle.1 in
      let second = less _ (chosen.rising (k + suc n) middle.0 j middle.1.candidate other.candidate middle.1.place
      (subst (λ m. slice_get places m ≡ Some j) next other.place) middle.1.is other.is) in
      nat_list_cmp_total.trans (name_of one.candidate) (name_of middle.1.candidate) (name_of other.candidate) first second

  apart : (k n : ℕ) → k + suc n < length places → (i j : ℕ) → IsAt k i → IsAt (k + suc n) j → i ≢ j
  apart k n inside i j one other same =
      let less = rises k n inside i j one other in
      let names = ap name_of (same_some one.candidate other.candidate (sym one.is ∙ ap (slice_get found) same ∙ other.is)) in
      never_less (name_of other.candidate) (subst (λ name. slice_cmp nat_cmp name (name_of other.candidate) ≡ Less) names less)

  pub places_differ : AllPairs (λ i j. i ≢ j) places
  places_differ k l d before inside same =
      let one = at k (omega (arith, before, inside)) in
      let other = at l inside in
      let behind : k + suc (l - k - 1) ≡ l = omega (arith, before) in
      let far : IsAt (k + suc (l - k - 1)) other.0 = subst (λ m. IsAt m other.0) (sym behind) other.1 in
      apart k (l - k - 1) (omega (arith, before, inside)) one.0 other.0 one.1 far
      (sym (get_or_from_slice_get places k one.0 d one.1.place) ∙ same ∙ get_or_from_slice_get places l other.0 d other.1.place)

  pub places_rise : AreRising found → AllPairs (λ i j. i < j) places
  places_rise rising k l d before inside =
      let one = at k (omega (arith, before, inside)) in
      let other = at l inside in
      let behind : k + suc (l - k - 1) ≡ l = omega (arith, before) in
      let far : IsAt (k + suc (l - k - 1)) other.0 = subst (λ m. IsAt m other.0) (sym behind) other.1 in
      let less = rises k (l - k - 1) (omega (arith, before, inside)) one.0 other.0 one.1 far in
      rw (get_or_from_slice_get places k one.0 d one.1.place, get_or_from_slice_get places l other.0 d other.1.place)
      (lesser found rising one.0 other.0 one.1.candidate far.candidate one.1.is far.is less)

  -- their modules rise by name
  pub places_by_name : AllPairs (λ i j. (a b : Candidate) → slice_get found i ≡ Some a → slice_get found j ≡ Some b
      → slice_cmp nat_cmp (name_of a) (name_of b) ≡ Less) places
  places_by_name k l d before inside a b is also =
      let one = at k (omega (arith, before, inside)) in
      let other = at l inside in
      let behind : k + suc (l - k - 1) ≡ l = omega (arith, before) in
      let far : IsAt (k + suc (l - k - 1)) other.0 = subst (λ m. IsAt m other.0) (sym behind) other.1 in
      let less = rises k (l - k - 1) (omega (arith, before, inside)) one.0 other.0 one.1 far in
      let first : one.1.candidate ≡ a = same_some one.1.candidate a (sym one.1.is
      ∙ ap (slice_get found) (sym (get_or_from_slice_get places k one.0 d one.1.place)) ∙ is) in
      let second : far.candidate ≡ b = same_some far.candidate b (sym far.is
      ∙ ap (slice_get found) (sym (get_or_from_slice_get places l other.0 d other.1.place)) ∙ also) in
      subst (λ c. slice_cmp nat_cmp (name_of a) (name_of c) ≡ Less) second
      (subst (λ c. slice_cmp nat_cmp (name_of c) (name_of far.candidate) ≡ Less) first less)

-- the places of a closure
module _ (found : List Candidate) (roots : List (List ℕ)) where
  pub chosen_within : (bind : Bool) (places : List ℕ) → ClosesWith bind found roots (Ok places) → (i : ℕ) → Contains places i
      → i < length found
  chosen_within true places closes i has = bound_below found roots i ((closes.4.exactly i).0 has)
  chosen_within false places closes i has = reached_found found roots i ((closes.4.exactly i).0 has)

  pub chosen_differ : (bind : Bool) (places : List ℕ) → ClosesWith bind found roots (Ok places) → AllPairs (λ i j. i ≢ j) places
  chosen_differ true places closes = places_differ found (Bound found roots) places closes.4 (chosen_within true places closes)
  chosen_differ false places closes = places_differ found (Reached found roots) places closes.4 (chosen_within false places closes)

  pub chosen_rise : (bind : Bool) (places : List ℕ) → ClosesWith bind found roots (Ok places) → AreRising found
      → AllPairs (λ i j. i < j) places
  chosen_rise true places closes = places_rise found (Bound found roots) places closes.4 (chosen_within true places closes)
  chosen_rise false places closes = places_rise found (Reached found roots) places closes.4 (chosen_within false places closes)
