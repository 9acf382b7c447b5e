-- What is filed, as code holds it and as plain data.
use Rattle.std.proofs.Common.{◌≡◌, ℕ, ◌+◌, ◌<◌, ◌≤◌, ◌⊎◌, inl, inr, Bool, true, false, ◌&&◌, List, length}
use Rattle.std.proofs.Common.{map, take, drop, get_or, Contains, refl, sym, ap, ◌∙◌, subst, arith}
use Rattle.std.proofs.lemmas.Bool.{cases_lt, false≢true}
use Rattle.std.proofs.lemmas.List.{get_or-drop, get_or-map, length-drop, length-map}
use Rattle.std.proofs.lemmas.Map.Lookups.{exact_bytes}
use Rattle.std.proofs.lemmas.Slice.Eq.{bytes_eq-Decides}
use Rattle.std.proofs.lemmas.Map.Text.{is_eq-slice_cmp}
use mathlib.Core.Bool.{beq}
use Rattle.std.specs.Cmp.{bool_cmp_total, both_tied, tied_itself, on_total, Equal-is, then_total, IsTotalOrder}
use Rattle.std.specs.Cmp.Lexicographic.{slice_cmp, nat_list_cmp_total, texts_ties}
use Rattle.std.specs.List.{AllWithin}
use Rattle.std.specs.List.Sorted.{IsPartitionPoint, IsPartitionedBy}
use Rattle.std.specs.Ordering.{bool_cmp, eq_by_cmp, is_eq, is_gt, is_lt, nat_cmp, on, ordering_then}
use Rattle.std.specs.Str.{bytes_eq}
use Rattle.std.specs.declared.cmp.Ordering.{Ordering}
use Rattle.std.specs.declared.cmp.Ordering.TheVariants.{Less, Equal, Greater}
use Rattle.jm_bytes.proofs.Members.{any_contains, contains_filter, from_any, from_filter}
use Rattle.jm_bytes.proofs.SameOrder.{filter_mapped}
use Rattle.jm_nodes.proofs.OrderLaws.{filter_behind, filter_front}
use Rattle.jm_nodes.specs.Filings.{filed_under, filing_cmp, filing_of, is_filed, Filing, IsFiledInOrder}
use Rattle.jm_nodes.specs.declared.filed.Filed.{Filed}

pub filing_total : IsTotalOrder filing_cmp
filing_total =
    then_total (on_total (λ (f : Filing). f.under) nat_list_cmp_total)
    (then_total (on_total (λ (f : Filing). f.name) nat_list_cmp_total) (on_total (λ (f : Filing). f.mark) bool_cmp_total))

bool_exact : (a b : Bool) → bool_cmp a b ≡ Equal → a ≡ b
bool_exact true true e = refl
bool_exact false false e = refl
bool_exact true false e = absurd (false≢true (ap is_eq e))
bool_exact false true e = absurd (false≢true (ap is_eq e))

-- both are `Equal`
both_equal : (a b : Ordering) → ordering_then a b ≡ Equal → (a ≡ Equal) × (b ≡ Equal)
both_equal Equal b e = (refl, e)
both_equal Less b e = absurd (false≢true (ap is_eq e))
both_equal Greater b e = absurd (false≢true (ap is_eq e))

pub filing_exact : (a b : Filing) → filing_cmp a b ≡ Equal → a ≡ b
filing_exact a b e =
    let outer = both_equal (slice_cmp nat_cmp a.under b.under) (ordering_then (slice_cmp nat_cmp a.name b.name)
    (bool_cmp a.mark b.mark)) e in
    let inner = both_equal (slice_cmp nat_cmp a.name b.name) (bool_cmp a.mark b.mark) outer.1 in
    λ i. record {
      under = exact_bytes a.under b.under outer.0 i;
      name = exact_bytes a.name b.name inner.0 i;
      mark = bool_exact a.mark b.mark inner.1 i;
    }

bool_ties : (a b : Bool) → beq a b ≡ is_eq (bool_cmp a b)
bool_ties true true = refl
bool_ties false false = refl
bool_ties true false = refl
bool_ties false true = refl

pub filed_ties : (x y : Filed) → (bytes_eq x.under.now y.under.now && (bytes_eq x.name.now y.name.now && beq x.mark y.mark))
    ≡ eq_by_cmp (on filing_of filing_cmp) x y
filed_ties x y =
    both_tied _ _ (slice_cmp nat_cmp x.under.now y.under.now) (ordering_then (slice_cmp nat_cmp x.name.now y.name.now)
    (bool_cmp x.mark y.mark)) (texts_ties x.under.now y.under.now)
    (both_tied _ _ (slice_cmp nat_cmp x.name.now y.name.now) (bool_cmp x.mark y.mark) (texts_ties x.name.now y.name.now)
    (bool_ties x.mark y.mark))

-- What is filed under a text stands together

is_less : (a : Ordering) → is_lt a ≡ true → a ≡ Less
is_less Less e = refl
is_less Equal e = absurd (false≢true e)
is_less Greater e = absurd (false≢true e)

not_greater : (a b : Ordering) → ordering_then a b ≡ Less → is_gt a ≡ false
not_greater Less b e = refl
not_greater Equal b e = refl
not_greater Greater b e = absurd (false≢true (ap is_lt e))

-- what isn't above a lesser text is lesser
lesser_before : (a b text : List ℕ) → is_gt (slice_cmp nat_cmp a b) ≡ false → is_lt (slice_cmp nat_cmp b text) ≡ true
    → is_lt (slice_cmp nat_cmp a text) ≡ true
lesser_before a b text up less = go (slice_cmp nat_cmp a b) refl
  where
    go : (c : Ordering) → slice_cmp nat_cmp a b ≡ c → is_lt (slice_cmp nat_cmp a text) ≡ true
    go Less e = ap is_lt (nat_list_cmp_total.trans a b text e (is_less (slice_cmp nat_cmp b text) less))
    go Equal e = ap is_lt (nat_list_cmp_total.congr a b text e) ∙ less
    go Greater e = absurd (false≢true (sym up ∙ ap is_gt e))

-- between the text and itself there is only the text
same_before : (a b text : List ℕ) → is_gt (slice_cmp nat_cmp a b) ≡ false → is_lt (slice_cmp nat_cmp a text) ≡ false
    → bytes_eq b text ≡ true → bytes_eq a text ≡ true
same_before a b text up least same = go (slice_cmp nat_cmp a b) refl
  where
    is : b ≡ text
    is = (bytes_eq-Decides b text).0 same

    go : (c : Ordering) → slice_cmp nat_cmp a b ≡ c → bytes_eq a text ≡ true
    go Less e = absurd (false≢true (sym least ∙ ap (λ t. is_lt (slice_cmp nat_cmp a t)) (sym is) ∙ ap is_lt e))
    go Equal e = (bytes_eq-Decides a text).1 (exact_bytes a b e ∙ is)
    go Greater e = absurd (false≢true (sym up ∙ ap is_gt e))

module _ (table : List Filed) (text : List ℕ) (up : IsFiledInOrder (map filing_of table)) where
  flat : (i j : ℕ) (d : Filed) → i < j → j < length table
      → is_gt (slice_cmp nat_cmp (get_or table i d).under.now (get_or table j d).under.now) ≡ false
  flat i j d before below =
      let a = get_or table i d in
      let b = get_or table j d in
      let less = up i j (filing_of d) before (omega (arith, length-map table filing_of)) in
      not_greater (slice_cmp nat_cmp a.under.now b.under.now) (ordering_then (slice_cmp nat_cmp a.name.now b.name.now)
      (bool_cmp a.mark b.mark))
      (rw (get_or-map filing_of table i d (filing_of d) (omega arith), get_or-map filing_of table j d (filing_of d) below) at less)

  pub lesser_parted : IsPartitionedBy (λ (f : Filed). is_lt (slice_cmp nat_cmp f.under.now text)) table
  lesser_parted i j d le below less =
      elim (cases_lt i j) [
        | inl before ↦ lesser_before (get_or table i d).under.now (get_or table j d).under.now text (flat i j d before below) less
        | inr not_before ↦ let same : i ≡ j = omega arith in rw same less
      ]

  pub same_parted : (at : ℕ) → at ≤ length table → AllWithin (λ (f : Filed). is_lt (slice_cmp nat_cmp f.under.now text) ≡ false)
      table at (length table)
      → IsPartitionedBy (λ (f : Filed). bytes_eq f.under.now text) (drop at table)
  same_parted at within least i j d le below same =
      let long = length-drop at table in
      elim (cases_lt i j) [
        | inl before ↦
            let here = get_or-drop at table i d in
            let there = get_or-drop at table j d in
            rw here
            (same_before (get_or table (at + i) d).under.now (get_or table (at + j) d).under.now text
            (flat (at + i) (at + j) d (omega arith) (omega arith)) (least (at + i) d (omega arith) (omega arith))
            (rw there at same))
        | inr not_before ↦ let equal : i ≡ j = omega arith in rw equal same
      ]

  pub cut_out : (at len : ℕ) → at ≤ length table
      → IsPartitionPoint (λ (f : Filed). is_lt (slice_cmp nat_cmp f.under.now text) ≡ true)
      (λ (f : Filed). is_lt (slice_cmp nat_cmp f.under.now text) ≡ false) table at
      → len ≤ length (drop at table) → IsPartitionPoint (λ (f : Filed). bytes_eq f.under.now text ≡ true)
      (λ (f : Filed). bytes_eq f.under.now text ≡ false) (drop at table) len
      → map filing_of (take len (drop at table)) ≡ filed_under text (map filing_of table)
  cut_out at len within first inside second =
      let test : Filed → Bool = λ f. bytes_eq f.under.now text in
      ap (map filing_of)
      (sym (filter_front test (drop at table) len inside second)
      ∙ filter_behind test table at within (λ k d low high. other (get_or table k d).under.now (first.0 k d low high)))
      ∙ sym (filter_mapped (λ (f : Filing). bytes_eq f.under text) filing_of table)
    where
      other : (a : List ℕ) → is_lt (slice_cmp nat_cmp a text) ≡ true → bytes_eq a text ≡ false
      other a less = go (slice_cmp nat_cmp a text) refl
        where
          go : (c : Ordering) → slice_cmp nat_cmp a text ≡ c → bytes_eq a text ≡ false
          go Less e = sym (is_eq-slice_cmp a text) ∙ ap is_eq e
          go Equal e = absurd (false≢true (sym (ap is_lt e) ∙ less))
          go Greater e = absurd (false≢true (sym (ap is_lt e) ∙ less))

-- Members

pub filed_from : (front : List ℕ) (filings : List Filing) (filing : Filing) → Contains (filed_under front filings) filing
    → Contains filings filing × (filing.under ≡ front)
filed_from front filings filing there =
    let from = from_filter (λ (f : Filing). bytes_eq f.under front) filings filing there in
    (from.0, (bytes_eq-Decides filing.under front).0 from.1)

pub filed_there : (front : List ℕ) (filings : List Filing) (filing : Filing) → Contains filings filing → filing.under ≡ front
    → Contains (filed_under front filings) filing
filed_there front filings filing there is = contains_filter (λ (f : Filing). bytes_eq f.under front) filings filing there
    ((bytes_eq-Decides filing.under front).1 is)

pub is_filed_there : (filing : Filing) (filings : List Filing) → Contains filings filing → is_filed filing filings ≡ true
is_filed_there filing filings there = any_contains (λ other. is_eq (filing_cmp other filing)) filings filing there
    (ap is_eq (tied_itself filing_total filing))

pub is_filed_from : (filing : Filing) (filings : List Filing) → is_filed filing filings ≡ true → Contains filings filing
is_filed_from filing filings some =
    let one = from_any (λ other. is_eq (filing_cmp other filing)) filings some in
    subst (Contains filings) (filing_exact one.0 filing ((Equal-is (filing_cmp one.0 filing)).0 one.2)) one.1

-- of two that are filed under one text the first has the lesser name, or the same one without the mark
pub filed_before : (a b : Filing) → a.under ≡ b.under → filing_cmp a b ≡ Less → (slice_cmp nat_cmp a.name b.name ≡ Less)
    ⊎ ((a.name ≡ b.name) × (a.mark ≡ false) × (b.mark ≡ true))
filed_before a b same less = go (slice_cmp nat_cmp a.name b.name) refl
  where
    level : slice_cmp nat_cmp a.under b.under ≡ Equal
    level = ap (slice_cmp nat_cmp a.under) (sym same) ∙ tied_itself nat_list_cmp_total a.under

    behind : ordering_then (slice_cmp nat_cmp a.name b.name) (bool_cmp a.mark b.mark) ≡ Less
    behind = ap (λ o. ordering_then o (ordering_then (slice_cmp nat_cmp a.name b.name) (bool_cmp a.mark b.mark))) (sym level) ∙ less

    marked : (m n : Bool) → bool_cmp m n ≡ Less → (m ≡ false) × (n ≡ true)
    marked false true e = (refl, refl)
    marked false false e = absurd (false≢true (ap is_lt e))
    marked true false e = absurd (false≢true (ap is_lt e))
    marked true true e = absurd (false≢true (ap is_lt e))

    go : (o : Ordering) → slice_cmp nat_cmp a.name b.name ≡ o → (slice_cmp nat_cmp a.name b.name ≡ Less)
        ⊎ ((a.name ≡ b.name) × (a.mark ≡ false) × (b.mark ≡ true))
    go Less e = inl e
    go Equal e =
        let by_mark = marked a.mark b.mark (ap (λ o. ordering_then o (bool_cmp a.mark b.mark)) (sym e) ∙ behind) in
        inr (exact_bytes a.name b.name e, by_mark.0, by_mark.1)
    go Greater e = absurd (false≢true (ap is_lt (ap (λ o. ordering_then o (bool_cmp a.mark b.mark)) (sym e) ∙ behind)))
