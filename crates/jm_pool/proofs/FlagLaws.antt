-- A list whose flagged_items items are moved to its front, one place after another.
use Rattle.std.proofs.Common.{◌≡◌, ℕ, ◌+◌, ◌<◌, ◌≤◌, ◌⊎◌, inl, inr, Bool, true, false, cond, List, [], ◌∷◌}
use Rattle.std.proofs.Common.{◌++◌, length, take, drop, set, get_or, refl, sym, ap, ◌∙◌, arith, append_assoc}
use Rattle.std.proofs.lemmas.Bool.{cases_lt}
use Rattle.std.proofs.lemmas.List.{take-set-le, take_more_set, take-set, drop-set-lt, drop_more, length-set}
use Rattle.std.proofs.lemmas.List.Edits.{swap_is}
use Rattle.std.specs.List.{swap}
use Rattle.jm_pool.specs.Pairs.{flagged_items}

module _ {X : Type 0} where
  -- an item moved to a place in front: what stands up to there, and what stands behind where it was
  pub taken_swap : (items : List X) (front place : ℕ) (d : X) → front ≤ place → place < length items
      → take (front + 1) (swap items front place) ≡ take front items ++ get_or items place d ∷ []
  taken_swap items front place d before within =
      sym (ap (take (front + 1)) (swap_is items front place d (omega arith) within)) ∙ go (cases_lt front place)
    where
      one : List X
      one = set items front (get_or items place d)

      there : length one ≡ length items
      there = length-set items front (get_or items place d)

      go : (front < place) ⊎ (place ≤ front) → take (front + 1) (set one place (get_or items front d)) ≡ take front items
          ++ get_or items place d ∷ []
      go (inl less) = take-set-le (front + 1) one place (get_or items front d) (omega arith)
          ∙ take_more_set items front (get_or items place d) (omega arith)
      go (inr least) =
          let same : front ≡ place = omega arith in
          let last : take (front + 1) (set one front (get_or items front d)) ≡ take front one ++ get_or items front d ∷ [] =
          take_more_set one front (get_or items front d) (omega (arith, there)) in
          ap (λ k. take (front + 1) (set one k (get_or items front d))) (sym same) ∙ last ∙ ap (λ l. l ++ get_or items front d ∷ [])
          (take-set items front (get_or items place d)) ∙ ap (λ k. take front items ++ get_or items k d ∷ []) same

  pub dropped_swap : (items : List X) (front place : ℕ) (d : X) → front ≤ place → place < length items
      → drop (place + 1) (swap items front place) ≡ drop (place + 1) items
  dropped_swap items front place d before within =
      sym (ap (drop (place + 1)) (swap_is items front place d (omega arith) within))
      ∙ drop-set-lt (place + 1) (set items front (get_or items place d)) place (get_or items front d) (omega arith)
      ∙ drop-set-lt (place + 1) items front (get_or items place d) (omega arith)

  flagged_more : (flags : List Bool) (items : List X) (place : ℕ) (flag : Bool) (d : X) → place < length flags → length flags
      ≡ length items → get_or flags place false ≡ flag → flagged_items (drop place flags) (drop place items)
      ≡ cond flag (get_or items place d ∷ flagged_items (drop (place + 1) flags) (drop (place + 1) items))
      (flagged_items (drop (place + 1) flags) (drop (place + 1) items))
  flagged_more flags items place flag d within size is =
      ap (λ l. flagged_items l (drop place items)) (drop_more flags place false within)
      ∙ ap (λ l. flagged_items (get_or flags place false ∷ drop (place + 1) flags) l)
      (drop_more items place d (omega (arith, size)))
      ∙ ap (λ b. flagged_items (b ∷ drop (place + 1) flags) (get_or items place d ∷ drop (place + 1) items)) is ∙ go flag
    where
      go : (b : Bool) → flagged_items (b ∷ drop (place + 1) flags) (get_or items place d ∷ drop (place + 1) items)
          ≡ cond b (get_or items place d ∷ flagged_items (drop (place + 1) flags) (drop (place + 1) items))
          (flagged_items (drop (place + 1) flags) (drop (place + 1) items))
      go true = refl
      go false = refl

  kept_at : (flags : List Bool) (items all : List X) (front place : ℕ) (d : X) → front ≤ place → place < length flags → length flags
      ≡ length items → get_or flags place false ≡ true → all ≡ take front items ++ flagged_items (drop place flags)
      (drop place items) → all ≡ take (front + 1) (swap items front place) ++ flagged_items (drop (place + 1) flags)
      (drop (place + 1) (swap items front place))
  kept_at flags items all front place d before within size is so_far =
      let below : place < length items = omega (arith, size) in
      let rest : List X = flagged_items (drop (place + 1) flags) (drop (place + 1) items) in
      let one = flagged_more flags items place true d within size is in
      let shape = append_assoc (take front items) (get_or items place d ∷ []) rest in
      let moved = taken_swap items front place d before below in
      let behind = dropped_swap items front place d before below in
      so_far ∙ ap (λ l. take front items ++ l) one ∙ sym shape ∙ ap (λ l. l ++ rest) (sym moved)
      ∙ ap (λ l. take (front + 1) (swap items front place) ++ flagged_items (drop (place + 1) flags) l) (sym behind)

  gone_at : (flags : List Bool) (items all : List X) (front place : ℕ) (d : X) → place < length flags → length flags ≡ length items
      → get_or flags place false ≡ false → all ≡ take front items ++ flagged_items (drop place flags) (drop place items) → all
      ≡ take front items ++ flagged_items (drop (place + 1) flags) (drop (place + 1) items)
  gone_at flags items all front place d within size is so_far =
      so_far ∙ ap (λ l. take front items ++ l) (flagged_more flags items place false d within size is)

  -- one place more, whose item stays
  pub flagged_kept : (flags : List Bool) (items all : List X) (front place : ℕ) → front ≤ place → place < length flags
      → length flags ≡ length items → get_or flags place false ≡ true → all ≡ take front items ++ flagged_items (drop place flags)
      (drop place items) → all ≡ take (front + 1) (swap items front place) ++ flagged_items (drop (place + 1) flags)
      (drop (place + 1) (swap items front place))
  flagged_kept flags [] all front place before within size is so_far = let no : ⊥ = omega (arith, size) in absurd no
  flagged_kept flags (d ∷ items) all front place before within size is so_far = kept_at flags (d ∷ items) all front place d before
      within size is so_far

  -- and one place more, whose item goes
  pub flagged_gone : (flags : List Bool) (items all : List X) (front place : ℕ) → place < length flags → length flags ≡ length items
      → get_or flags place false ≡ false → all ≡ take front items ++ flagged_items (drop place flags) (drop place items) → all
      ≡ take front items ++ flagged_items (drop (place + 1) flags) (drop (place + 1) items)
  flagged_gone flags [] all front place within size is so_far = let no : ⊥ = omega (arith, size) in absurd no
  flagged_gone flags (d ∷ items) all front place within size is so_far = gone_at flags (d ∷ items) all front place d within size is so_far
