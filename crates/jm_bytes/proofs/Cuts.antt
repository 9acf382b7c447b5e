-- A list that is cut at the first or at the last element that passes a test.
use Rattle.std.proofs.Common.{◌≡◌, ◌+◌, ◌-◌, ◌<◌, Bool, true, false, not, List, [], ◌∷◌, ◌++◌, reverse}
use Rattle.std.proofs.Common.{length, get_or, take, drop, sym, ap, inl, inr, ◌∙◌, arith}
use Rattle.std.proofs.lemmas.Bool.{cases_lt, not-false, false≢true}
use Rattle.std.proofs.lemmas.List.{drop_more, length-reverse, get_or-reverse, take-append-drop}
use Rattle.std.proofs.lemmas.List.Folds.{list_any_at}
use Rattle.std.proofs.lemmas.List.Sums.{prefix_len_stops, prefix_len_passes, passes_at_first, split_at_first}
use Rattle.std.specs.List.{list_any, suffix_len, position_or_len, before_first, after_first, before_last, after_last}
use Rattle.jm_bytes.proofs.Firsts.{position_below, place_of_any}

module _ {X : Type 0} (p : X → Bool) where
  -- a list is what stands before its first element that passes, that element and what stands after
  pub first_parts : (xs : List X) (d : X) → list_any p xs ≡ true → (x : X) × (p x ≡ true) × (before_first p xs ++ x ∷ after_first p xs ≡ xs)
  first_parts xs d some =
      let within = position_below p xs some in
      (get_or xs (position_or_len p xs) d, passes_at_first p xs d within, sym (split_at_first p xs d within))

  -- the last element that passes stands at a place
  pub last_within : (xs : List X) (d : X) → list_any p xs ≡ true → suffix_len (λ x. not (p x)) xs < length xs
  last_within xs d some =
      let place = place_of_any p xs d some in
      let k = place.0 in
      let turned = get_or-reverse xs (length xs - 1 - k) d (omega (arith, place.1)) in
      elim (cases_lt (suffix_len (λ x. not (p x)) xs) (length xs)) [
        | inl lt ↦ lt
        | inr past ↦
            let fails : not (p (get_or (reverse xs) (length xs - 1 - k) d)) ≡ true = prefix_len_passes (λ x. not (p x)) (reverse xs)
            (length xs - 1 - k) d (omega (arith, place.1)) in
            let back : length xs - 1 - (length xs - 1 - k) ≡ k = omega (arith, place.1) in
            absurd (false≢true (sym (ap not place.2) ∙ ap (λ i. not (p (get_or xs i d))) (sym back)
            ∙ ap (λ x. not (p x)) (sym turned) ∙ fails))
      ]

  -- a list is what stands before its last element that passes, that element and what stands after
  pub last_parts : (xs : List X) (d : X) → suffix_len (λ x. not (p x)) xs < length xs → (x : X) × (p x ≡ true)
      × (before_last p xs ++ x ∷ after_last p xs ≡ xs)
  last_parts xs d within =
      let after = suffix_len (λ x. not (p x)) xs in
      let at = length xs - after - 1 in
      let stops = prefix_len_stops (λ x. not (p x)) (reverse xs) d (omega (arith, length-reverse xs)) in
      let place : length xs - 1 - after ≡ at = omega arith in
      let read = get_or-reverse xs after d within ∙ ap (λ k. get_or xs k d) place in
      let next : length xs - after ≡ at + 1 = omega arith in (
        get_or xs at d,
        not-false _ (rw read at stops),
        ap (λ k. take at xs ++ get_or xs at d ∷ drop k xs) next
            ∙ ap (λ ys. take at xs ++ ys) (sym (drop_more xs at d (omega arith))) ∙ take-append-drop at xs,
      )

  -- where no element passes, nothing stands before the last one
  pub before_last_none : (xs : List X) (d : X) → list_any p xs ≡ false → before_last p xs ≡ []
  before_last_none xs d none = ap (λ n. take n xs) whole
    where
      whole : length xs - suffix_len (λ x. not (p x)) xs - 1 ≡ 0
      whole = elim (cases_lt (suffix_len (λ x. not (p x)) xs) (length xs)) [
        | inl within ↦
            let stops = prefix_len_stops (λ x. not (p x)) (reverse xs) d (omega (arith, length-reverse xs)) in
            let read = get_or-reverse xs (suffix_len (λ x. not (p x)) xs) d within in
            let here : p (get_or xs (length xs - 1 - suffix_len (λ x. not (p x)) xs) d) ≡ true = not-false _ (rw read at stops) in
            absurd (false≢true (sym none ∙ list_any_at p xs (length xs - 1 - suffix_len (λ x. not (p x)) xs) d (omega arith) here))
        | inr past ↦ omega arith
      ]
