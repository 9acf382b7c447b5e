-- The parts of a text that is cut at each element that passes a test, one after another.
use Rattle.std.proofs.Common.{◌≡◌, ℕ, Bool, true, false, ◌&&◌, ◌||◌, List, [], ◌∷◌, get_or, sym, ap, ◌∙◌}
use Rattle.std.specs.List.{after_first, before_first, list_all, list_any, slice_split}
use Rattle.std.proofs.Math.Bool.{and-true, or-false}
use Rattle.std.proofs.lemmas.Bool.{false≢true, false_from_ne_true}
use Rattle.std.proofs.lemmas.List.Folds.{list_any_at}
use Rattle.std.proofs.lemmas.List.Splits.{slice_split_first, slice_split_none}
use Rattle.jm_bytes.proofs.Firsts.{position_below}

module _ (p : ℕ → Bool) (text : List ℕ) where
  -- the first part, and the parts of what stands after it
  module _ (part behind : List ℕ) (some : list_any p text ≡ true) (before : part ≡ before_first p text)
      (after : behind ≡ after_first p text) where
    parts_first : slice_split p text ≡ part ∷ slice_split p behind
    parts_first =
        slice_split_first p text 0 (position_below p text some)
        ∙ ap (λ (one : List ℕ). one ∷ slice_split p (after_first p text)) (sym before)
        ∙ ap (λ rest. part ∷ slice_split p rest) (sym after)

    module _ (test : List ℕ → Bool) (all : Bool) where
      pub any_here : list_any test (slice_split p text) ≡ all → test part ≡ true → true ≡ all
      any_here so_far is = ap (λ b. b || list_any test (slice_split p behind)) (sym is) ∙ ap (list_any test) (sym parts_first) ∙ so_far

      pub any_later : list_any test (slice_split p text) ≡ all → test part ≡ false → list_any test (slice_split p behind) ≡ all
      any_later so_far is = ap (λ b. b || list_any test (slice_split p behind)) (sym is) ∙ ap (list_any test) (sym parts_first) ∙ so_far

      pub all_not : list_all test (slice_split p text) ≡ all → test part ≡ false → false ≡ all
      all_not so_far is = ap (λ b. b && list_all test (slice_split p behind)) (sym is) ∙ ap (list_all test) (sym parts_first) ∙ so_far

      pub all_later : list_all test (slice_split p text) ≡ all → test part ≡ true → list_all test (slice_split p behind) ≡ all
      all_later so_far is = ap (λ b. b && list_all test (slice_split p behind)) (sym is) ∙ ap (list_all test) (sym parts_first) ∙ so_far

  -- the last part
  module _ (none : list_any p text ≡ false) where
    parts_last : slice_split p text ≡ text ∷ []
    parts_last = slice_split_none p text (λ k d below. false_from_ne_true (p (get_or text k d))
        (λ is. false≢true (sym none ∙ list_any_at p text k d below is)))

    module _ (test : List ℕ → Bool) (all : Bool) where
      pub any_last : list_any test (slice_split p text) ≡ all → test text ≡ all
      any_last so_far = sym (or-false (test text)) ∙ ap (list_any test) (sym parts_last) ∙ so_far

      pub all_last : list_all test (slice_split p text) ≡ all → test text ≡ all
      all_last so_far = sym (and-true (test text)) ∙ ap (list_all test) (sym parts_last) ∙ so_far
