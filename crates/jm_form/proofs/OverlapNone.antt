-- No overlap is found exactly where no two ranges have a byte in common.
use Rattle.std.proofs.Common.{◌≡◌, ℕ, true, false, List, Option, Some, None, Contains, option_map, refl, sym, ap, ◌∙◌}
use Rattle.std.proofs.lemmas.Bool.{false_from_ne_true, false≢true}
use Rattle.std.specs.List.{find}
use Rattle.jm_bytes.proofs.Finds.{find_found, find_none, find_nowhere}
use Rattle.jm_bytes.proofs.Members.{any_contains, from_any}
use Rattle.jm_form.specs.declared.ranges.Range.{Range}
use Rattle.jm_form.specs.ComputedOverlap.{first_overlap, meets, meets_one, overlap_from}
use Rattle.jm_form.specs.Overlap.{Apart}
use Rattle.jm_form.proofs.OverlapLaws.{from_meets, meets_from}

pub no_overlap_apart : (rs : List Range) → first_overlap rs ≡ None → Apart rs
no_overlap_apart rs clear r s has_r has_s both = go (find (meets_one rs) rs) refl clear
  where
    partner : (q : Range) (o : Option Range) → find (meets q) rs ≡ o → option_map {U = ℕ × ℕ} (λ t. (q.slot, t.slot)) o ≡ None
        → find (meets q) rs ≡ None
    partner q None e clear = e
    partner q (Some t) e clear = cc

    go : (o : Option Range) → find (meets_one rs) rs ≡ o → overlap_from rs o ≡ None → ⊥
    go None e clear =
        let one : meets_one rs r ≡ true = any_contains (meets r) rs s has_s (meets_from r s both) in
        absurd (false≢true (sym (find_nowhere (meets_one rs) rs e r has_r) ∙ one))
    go (Some q) e clear =
        let some = from_any (meets q) rs (find_found (meets_one rs) rs q e).1 in
        let none = partner q (find (meets q) rs) refl clear in
        absurd (false≢true (sym (find_nowhere (meets q) rs none some.0 some.1) ∙ some.2))

pub apart_no_overlap : (rs : List Range) → Apart rs → first_overlap rs ≡ None
apart_no_overlap rs apart = ap (overlap_from rs) (find_none (meets_one rs) rs alone)
  where
    alone : (r : Range) → Contains rs r → meets_one rs r ≡ false
    alone r has_r = false_from_ne_true (meets_one rs r)
        (λ some. let other = from_any (meets r) rs some in apart r other.0 has_r other.1 (from_meets r other.0 other.2))
