-- The first overlap of ranges: the rule and its value agree, in each order of the ranges, and ranges
-- without a byte change neither.
use Rattle.std.proofs.Common.{◌≡◌, ◌≢◌, ℕ, ◌<◌, ◌≤◌, inl, inr, ◌==◌, ◌&&◌, not, min, max, Bool, true, false}
use Rattle.std.proofs.Common.{cond, List, [], ◌∷◌, filter, IsPermutation, Option, Some, None, option_map}
use Rattle.std.proofs.Common.{AllPairs, Contains, refl, sym, ap, ◌∙◌, subst, arith}
use Rattle.std.proofs.lemmas.Bool.{and_parts, false≢true, lt-ltb, ltb-true}
use Rattle.std.proofs.lemmas.Bool.Decides.{nat_tests}
use Rattle.std.proofs.lemmas.List.Elements.{All-contains}
use Rattle.std.proofs.lemmas.Map.Views.{any-filter_same}
use Rattle.std.proofs.lemmas.List.Sorted.{Contains-permutation, IsPermutation-sym}
use Rattle.std.specs.Prelude.{nat_lt}
use Rattle.std.specs.List.{find}
use Rattle.jm_bytes.proofs.Choice.{same_first, same_second, same_some}
use Rattle.jm_bytes.proofs.Finds.{find_filtered}
use Rattle.jm_bytes.proofs.Members.{any_contains, contains_cases, contains_here, contains_later, contains_none, from_any}
use Rattle.jm_bytes.proofs.Pairs.{pairs_head, pairs_tail}
use Rattle.jm_form.specs.declared.ranges.Range.{Range}
use Rattle.jm_form.specs.ComputedOverlap.{first_overlap, meets, meets_one, overlap_from}
use Rattle.jm_form.specs.Overlap.{IsFirstOverlap, IsLeast, Meets, MeetsOne}

-- Two ranges

at_max : (a b c d : ℕ) → nat_lt (max a c) (min b d) ≡ true → (a ≤ max a c) × (max a c < b) × (c ≤ max a c) × (max a c < d)
at_max a b c d common = (
  omega (arith, ltb-true _ _ common),
  omega (arith, ltb-true _ _ common),
  omega (arith, ltb-true _ _ common),
  omega (arith, ltb-true _ _ common),
)

at_place : (a b c d k : ℕ) → a ≤ k → k < b → c ≤ k → k < d → nat_lt (max a c) (min b d) ≡ true
at_place a b c d k from to from' to' = grind (arith, nat_tests)

slots_differ : (a b : ℕ) (common : Bool) → not (a == b) && common ≡ true → (a ≢ b) × (common ≡ true)
slots_differ a b common both = grind (arith, nat_tests)

differ_and : (a b : ℕ) (common : Bool) → a ≢ b → common ≡ true → not (a == b) && common ≡ true
differ_and a b common differ is = grind (arith, nat_tests)

-- the test says no more than the rule, and no less
pub from_meets : (r s : Range) → meets r s ≡ true → Meets r s
from_meets r s met =
    let parts = slots_differ r.slot s.slot (nat_lt (max r.start s.start) (min r.end s.end)) met in
    let at = at_max r.start r.end s.start s.end parts.1 in
    record {
      slots = parts.0;
      place = max r.start s.start;
      first = record { from = at.0; to = at.1 };
      second = record { from = at.2; to = at.3 };
    }

pub meets_from : (r s : Range) → Meets r s → meets r s ≡ true
meets_from r s met =
    differ_and r.slot s.slot (nat_lt (max r.start s.start) (min r.end s.end)) met.slots
    (at_place r.start r.end s.start s.end met.place met.first.from met.first.to met.second.from met.second.to)

pub from_meets_one : (all : List Range) (r : Range) → meets_one all r ≡ true → MeetsOne all r
from_meets_one all r some = let one = from_any (meets r) all some in (one.0, one.1, from_meets r one.0 one.2)

pub meets_one_from : (all : List Range) (r : Range) → MeetsOne all r → meets_one all r ≡ true
meets_one_from all r one = any_contains (meets r) all one.0 one.1 (meets_from r one.0 one.2)

-- The least slot

abbrev pub SlotsRise : List Range → Type 0
SlotsRise rs = AllPairs (λ (r s : Range). r.slot < s.slot) rs

-- a range whose slot is at most that of the first one is the first one
first_of_rising : (r : Range) (rs : List Range) (s : Range) → SlotsRise (r ∷ rs) → Contains (r ∷ rs) s → s.slot ≤ r.slot → r ≡ s
first_of_rising r rs s rising inside below =
    elim (contains_cases r rs s inside) [
      | inl same ↦ same
      | inr later ↦
          let above = All-contains (λ (t : Range). r.slot < t.slot) rs s
          (pairs_head (λ (t u : Range). t.slot < u.slot) r rs rising) later in
          absurd (omega arith)
    ]

-- without the first one, which has not the property
least_tail : (P : Range → Type 0) (r : Range) (rs : List Range) (s : Range) → IsLeast P (r ∷ rs) s → (P r → ⊥) → IsLeast P rs s
least_tail P r rs s is out = record {
  inside = elim (contains_cases r rs s is.inside) [
    | inl same ↦ absurd (out (subst P (sym same) is.has))
    | inr later ↦ later
  ];
  has = is.has;
  least = λ t inside has. is.least t (contains_later r rs t inside) has;
}

-- the first one with the property, where the slots rise
module _ (P : Range → Type 0) (p : Range → Bool) (from : (r : Range) → p r ≡ true → P r) (into : (r : Range) → P r → p r ≡ true) where
  find_least : (rs : List Range) (r : Range) → SlotsRise rs → find p rs ≡ Some r → IsLeast P rs r
  find_least [] r rising e = cc
  find_least (t ∷ rs) r rising e = go (p t) refl e (find_least rs r (pairs_tail (λ (u v : Range). u.slot < v.slot) t rs rising))
    where
      rise : (s : Range) → Contains rs s → t.slot < s.slot
      rise s inside = All-contains (λ (u : Range). t.slot < u.slot) rs s (pairs_head (λ (u v : Range). u.slot < v.slot) t rs rising) inside

      go : (b : Bool) → p t ≡ b → cond b (Some t) (find p rs) ≡ Some r → (find p rs ≡ Some r → IsLeast P rs r) → IsLeast P (t ∷ rs) r
      go true passes e later =
          let same = same_some t r e in
          rw (← same) (record {
            inside = contains_here t rs;
            has = from t passes;
            least = λ s inside has. elim (contains_cases t rs s inside) [
              | inl here ↦ subst (λ (u : Range). t.slot ≤ u.slot) here (omega arith)
              | inr behind ↦ omega (arith, rise s behind)
            ];
          })
      go false fails e later =
          let least = later e in
          record {
            inside = contains_later t rs r least.inside;
            has = least.has;
            least = λ s inside has. elim (contains_cases t rs s inside) [
              | inl here ↦ absurd (false≢true (sym fails ∙ ap p here ∙ into s has))
              | inr behind ↦ least.least s behind has
            ];
          }

  least_find : (rs : List Range) (r : Range) → SlotsRise rs → IsLeast P rs r → find p rs ≡ Some r
  least_find [] r rising is = absurd (contains_none r is.inside)
  least_find (t ∷ rs) r rising is = go (p t) refl (least_find rs r (pairs_tail (λ (u v : Range). u.slot < v.slot) t rs rising))
    where
      go : (b : Bool) → p t ≡ b → (IsLeast P rs r → find p rs ≡ Some r) → cond b (Some t) (find p rs) ≡ Some r
      go true passes later = ap (λ (u : Range). Some u) (first_of_rising t rs r rising is.inside (is.least t (contains_here t rs)
          (from t passes)))
      go false fails later = later (least_tail P t rs r is (λ has. false≢true (sym fails ∙ into t has)))

-- The first overlap

abbrev both_slots : Range → Option Range → Option (ℕ × ℕ)
both_slots r o = option_map {U = ℕ × ℕ} (λ (s : Range). (r.slot, s.slot)) o

-- the rule holds of the value
pub first_overlap_is : (rs : List Range) (a b : ℕ) → SlotsRise rs → first_overlap rs ≡ Some (a, b) → IsFirstOverlap rs a b
first_overlap_is rs a b rising e = of_first (find (meets_one rs) rs) refl e
  where
    of_second : (r : Range) → find (meets_one rs) rs ≡ Some r → (o : Option Range) → find (meets r) rs ≡ o → both_slots r o
        ≡ Some (a, b) → IsFirstOverlap rs a b
    of_second r first None second e = cc
    of_second r first (Some s) second e = record {
      range = r;
      other = s;
      slot = same_first r.slot a s.slot b e;
      other_slot = same_second r.slot a s.slot b e;
      least = find_least (MeetsOne rs) (meets_one rs) (from_meets_one rs) (meets_one_from rs) rs r rising first;
      least_other = find_least (Meets r) (meets r) (from_meets r) (meets_from r) rs s rising second;
    }

    of_first : (o : Option Range) → find (meets_one rs) rs ≡ o → overlap_from rs o ≡ Some (a, b) → IsFirstOverlap rs a b
    of_first None first e = cc
    of_first (Some r) first e = of_second r first (find (meets r) rs) refl e

-- the value is that of which the rule holds
pub first_overlap_from : (rs : List Range) (a b : ℕ) → SlotsRise rs → IsFirstOverlap rs a b → first_overlap rs ≡ Some (a, b)
first_overlap_from rs a b rising is =
    let r = is.range in
    let s = is.other in
    let first = least_find (MeetsOne rs) (meets_one rs) (from_meets_one rs) (meets_one_from rs) rs r rising is.least in
    let second = least_find (Meets r) (meets r) (from_meets r) (meets_from r) rs s rising is.least_other in
    ap (overlap_from rs) first ∙ (ap (both_slots r) second ∙ rw (is.slot, is.other_slot) refl)

-- The same ranges in another order

pub least_moved : (P : Range → Type 0) (rs ss : List Range) (r : Range) → IsPermutation rs ss → IsLeast P ss r → IsLeast P rs r
least_moved P rs ss r moved is = record {
  inside = Contains-permutation ss rs r (IsPermutation-sym rs ss moved) is.inside;
  has = is.has;
  least = λ s inside has. is.least s (Contains-permutation rs ss s moved inside) has;
}

pub meets_one_moved : (rs ss : List Range) (r : Range) → IsPermutation rs ss → MeetsOne rs r → MeetsOne ss r
meets_one_moved rs ss r moved (s, inside, met) = (s, Contains-permutation rs ss s moved inside, met)

pub least_one_moved : (rs ss : List Range) (r : Range) → IsPermutation rs ss → IsLeast (MeetsOne ss) ss r → IsLeast (MeetsOne rs) rs r
least_one_moved rs ss r moved is = record {
  inside = Contains-permutation ss rs r (IsPermutation-sym rs ss moved) is.inside;
  has = meets_one_moved ss rs r (IsPermutation-sym rs ss moved) is.has;
  least = λ s inside has. is.least s (Contains-permutation rs ss s moved inside) (meets_one_moved rs ss s moved has);
}

-- the rule doesn't hang on the order
pub first_overlap_moved : (rs ss : List Range) (a b : ℕ) → IsPermutation rs ss → IsFirstOverlap ss a b → IsFirstOverlap rs a b
first_overlap_moved rs ss a b moved is = record {
  range = is.range;
  other = is.other;
  slot = is.slot;
  other_slot = is.other_slot;
  least = least_one_moved rs ss is.range moved is.least;
  least_other = least_moved (Meets is.range) rs ss is.other moved is.least_other;
}

-- Ranges without a byte

abbrev has_byte : Range → Bool
has_byte r = nat_lt r.start r.end

first_has_byte : (a b c d : ℕ) (m : Bool) → m && nat_lt (max a c) (min b d) ≡ true → nat_lt a b ≡ true
first_has_byte a b c d m both =
    let common = and_parts m (nat_lt (max a c) (min b d)) both in let at = at_max a b c d common.1 in lt-ltb a b (omega (arith, at.0, at.1))

second_has_byte : (a b c d : ℕ) (m : Bool) → m && nat_lt (max a c) (min b d) ≡ true → nat_lt c d ≡ true
second_has_byte a b c d m both =
    let common = and_parts m (nat_lt (max a c) (min b d)) both in let at = at_max a b c d common.1 in lt-ltb c d (omega (arith, at.2, at.3))

meets_has_byte : (r s : Range) → meets r s ≡ true → has_byte s ≡ true
meets_has_byte r s met = second_has_byte r.start r.end s.start s.end (not (r.slot == s.slot)) met

meets_one_has_byte : (all : List Range) (r : Range) → meets_one all r ≡ true → has_byte r ≡ true
meets_one_has_byte all r some =
    let one = from_any (meets r) all some in
    first_has_byte r.start r.end one.0.start one.0.end (not (r.slot == one.0.slot)) one.2

meets_one-bytes : (rs : List Range) (r : Range) → meets_one (filter has_byte rs) r ≡ meets_one rs r
meets_one-bytes rs r = any-filter_same (meets r) has_byte true (meets_has_byte r) rs

-- they change nothing
pub first_overlap-bytes : (rs : List Range) → first_overlap (filter (λ (r : Range). nat_lt r.start r.end) rs) ≡ first_overlap rs
first_overlap-bytes rs = ap (overlap_from (filter has_byte rs)) first ∙ second (find (meets_one rs) rs)
  where
    first : find (meets_one (filter has_byte rs)) (filter has_byte rs) ≡ find (meets_one rs) rs
    first = find_filtered (meets_one rs) (meets_one (filter has_byte rs)) has_byte (meets_one-bytes rs) (meets_one_has_byte rs) rs

    second : (o : Option Range) → overlap_from (filter has_byte rs) o ≡ overlap_from rs o
    second None = refl
    second (Some r) = ap (both_slots r) (find_filtered (meets r) (meets r) has_byte (λ s. refl) (meets_has_byte r) rs)
