-- The range of the least slot with a property, one range after another, and the overlap that it gives.
use Rattle.std.proofs.Common.{◌≡◌, ℕ, ◌+◌, ◌<◌, ◌≤◌, ◌⊎◌, inl, inr, List, [], ◌∷◌, ◌++◌, length, take, get_or}
use Rattle.std.proofs.Common.{IsPermutation, Option, Some, None, IfSome, AllPairs, Contains, refl, sym, subst}
use Rattle.std.proofs.Common.{arith}
use Rattle.std.proofs.lemmas.List.{take_all, take_more}
use Rattle.std.proofs.lemmas.List.Elements.{Contains-append_left, Contains-push, Contains-push_cases}
use Rattle.std.proofs.lemmas.List.Sorted.{Contains-permutation}
use Rattle.jm_bytes.proofs.Members.{contains_none}
use Rattle.jm_form.specs.declared.ranges.Range.{Range}
use Rattle.jm_form.specs.ComputedOverlap.{first_overlap}
use Rattle.jm_form.specs.Overlap.{IsLeast, Meets, MeetsOne}
use Rattle.jm_form.proofs.OverlapLaws.{first_overlap_from, first_overlap_moved, meets_one_moved}
use Rattle.jm_form.proofs.OverlapNone.{apart_no_overlap}
use Rattle.jm_valid.specs.Ranges.{IsLeastIfAny}

-- Built from the front

pub least_nil : (P : Range → Type 0) → IsLeastIfAny P [] None
least_nil P r inside has = contains_none r inside

-- what has at most the slot of the least has at most that of each range with the property
pub least_below : (P : Range → Type 0) (rs : List Range) (least : Option Range) (n : ℕ) → IsLeastIfAny P rs least
    → IfSome least (λ r. n ≤ r.slot) → (s : Range) → Contains rs s → P s → n ≤ s.slot
least_below P rs None n is below s inside has = absurd (is s inside has)
least_below P rs (Some r) n is below s inside has = omega (arith, is.least s inside has)

-- one range more, which has not the property
pub least_skips : (P : Range → Type 0) (rs : List Range) (least : Option Range) (t : Range) → IsLeastIfAny P rs least → (P t → ⊥)
    → IsLeastIfAny P (rs ++ t ∷ []) least
least_skips P rs None t is out =
    λ r inside has. elim (Contains-push_cases rs t r inside) [
      | inl before ↦ is r before has
      | inr last ↦ out (subst P (sym last) has)
    ]
least_skips P rs (Some m) t is out = record {
  inside = Contains-append_left rs (t ∷ []) m is.inside;
  has = is.has;
  least = λ r inside has.
      elim (Contains-push_cases rs t r inside) [
        | inl before ↦ is.least r before has
        | inr last ↦ absurd (out (subst P (sym last) has))
      ];
}

-- one range more, which has it
pub least_takes : (P : Range → Type 0) (rs : List Range) (least : Option Range) (t m : Range) → IsLeastIfAny P rs least → P t
    → (least ≡ Some m) ⊎ (m ≡ t) → IfSome least (λ r. m.slot ≤ r.slot) → m.slot ≤ t.slot → IsLeastIfAny P (rs ++ t ∷ []) (Some m)
least_takes P rs least t m is in' from below last = record {
  inside = elim from [
    | inl old ↦ let at = subst (IsLeastIfAny P rs) old is in Contains-append_left rs (t ∷ []) m at.inside
    | inr new ↦ subst (Contains (rs ++ t ∷ [])) (sym new) (Contains-push rs t)
  ];
  has = elim from [
    | inl old ↦ let at = subst (IsLeastIfAny P rs) old is in at.has
    | inr new ↦ subst P (sym new) in'
  ];
  least = λ s s_inside s_has.
      elim (Contains-push_cases rs t s s_inside) [
        | inl before ↦ least_below P rs least m.slot is below s before s_has
        | inr here ↦ subst (λ (r : Range). m.slot ≤ r.slot) here last
      ];
}

-- The first i ranges of a list

pub least_skips_at : (P : Range → Type 0) (rs : List Range) (least : Option Range) (i : ℕ) (d : Range) → i < length rs
    → IsLeastIfAny P (take i rs) least → (P (get_or rs i d) → ⊥) → IsLeastIfAny P (take (i + 1) rs) least
least_skips_at P rs least i d inside is out =
    subst (λ (ss : List Range). IsLeastIfAny P ss least) (sym (take_more rs i d inside)) (least_skips P (take i rs) least
    (get_or rs i d) is out)

pub least_takes_at : (P : Range → Type 0) (rs : List Range) (least : Option Range) (i : ℕ) (d m : Range) → i < length rs
    → IsLeastIfAny P (take i rs) least → P (get_or rs i d) → (least ≡ Some m) ⊎ (m ≡ get_or rs i d)
    → IfSome least (λ r. m.slot ≤ r.slot) → m.slot ≤ (get_or rs i d).slot → IsLeastIfAny P (take (i + 1) rs) (Some m)
least_takes_at P rs least i d m inside is has from below last =
    subst (λ (ss : List Range). IsLeastIfAny P ss (Some m)) (sym (take_more rs i d inside)) (least_takes P (take i rs) least
    (get_or rs i d) m is has from below last)

pub least_all : (P : Range → Type 0) (rs : List Range) (least : Option Range) (i : ℕ) → length rs ≤ i
    → IsLeastIfAny P (take i rs) least → IsLeastIfAny P rs least
least_all P rs least i end is = subst (λ (ss : List Range). IsLeastIfAny P ss least) (take_all i rs end) is

-- The overlap of ranges by rising slot, found among the same ranges in another order

-- none meets another one: there is no overlap
pub none_meets : (rs ss : List Range) → IsPermutation rs ss → IsLeastIfAny (MeetsOne ss) ss None → first_overlap rs ≡ None
none_meets rs ss moved is = apart_no_overlap rs (λ r s inside other met. is r (Contains-permutation rs ss r moved inside)
    (meets_one_moved rs ss r moved (s, other, met)))

-- the least that meets another one, and the least that meets it
pub least_meet : (rs ss : List Range) (r s : Range) → AllPairs (λ r s. r.slot < s.slot) rs → IsPermutation rs ss
    → IsLeast (MeetsOne ss) ss r → IsLeast (Meets r) ss s → first_overlap rs ≡ Some (r.slot, s.slot)
least_meet rs ss r s rising moved first second =
    first_overlap_from rs r.slot s.slot rising (first_overlap_moved rs ss r.slot s.slot moved (record {
      range = r;
      other = s;
      slot = refl;
      other_slot = refl;
      least = first;
      least_other = second;
    }))
