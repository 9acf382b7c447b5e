-- The text of the slots that are kept, one slot after another.
use Rattle.std.proofs.Common.{◌≡◌, ℕ, ◌+◌, ◌<◌, Bool, true, false, cond, List, ◌∷◌, ◌++◌, get_or, length, map, drop}
use Rattle.std.proofs.Common.{refl, sym, ap, ◌∙◌, append_assoc}
use Rattle.std.proofs.lemmas.List.{at_drop_more}
use Rattle.jm_class.specs.declared.class.Slot.{Slot}
use Rattle.jm_class.specs.Classes.{slot_text}
use Rattle.jm_class.specs.Views.{slot_of}
use Rattle.jm_compact.specs.Compact.{renamed}
use Rattle.jm_compact.specs.Steps.{kept_text}

-- that of the slots from a place on
abbrev pub kept_from : (ℕ → ℕ) → List Bool → List Slot → ℕ → List ℕ
kept_from new flags pool i = kept_text new (drop i flags) (map slot_of (drop i pool))

module _ (new : ℕ → ℕ) (flags : List Bool) (pool : List Slot) (i : ℕ) (slot : Slot) (more : i < length pool)
    (same : length flags ≡ length pool) where
  abbrev words : List ℕ
  words = slot_text (renamed new (slot_of (get_or pool i slot)))

  next_kept : (b : Bool) → get_or flags i false ≡ b → kept_from new flags pool i
      ≡ cond b (words ++ kept_from new flags pool (i + 1)) (kept_from new flags pool (i + 1))
  next_kept b flag =
      at_drop_more (λ fs. kept_text new fs (map slot_of (drop i pool))) flags i false (rw same more)
      ∙ at_drop_more (λ xs. kept_text new (get_or flags i false ∷ drop (i + 1) flags) (map slot_of xs)) pool i slot more
      ∙ rw flag (go b)
    where
      go : (b : Bool) → kept_text new (b ∷ drop (i + 1) flags) (map slot_of (get_or pool i slot ∷ drop (i + 1) pool))
          ≡ cond b (words ++ kept_from new flags pool (i + 1)) (kept_from new flags pool (i + 1))
      go true = refl
      go false = refl

  pub put_kept : (now put all : List ℕ) → get_or flags i false ≡ true → put ≡ now ++ words → now ++ kept_from new flags pool i ≡ all
      → put ++ kept_from new flags pool (i + 1) ≡ all
  put_kept now put all flag grown so_far =
      ap (λ t. t ++ kept_from new flags pool (i + 1)) grown ∙ append_assoc now words (kept_from new flags pool (i + 1))
      ∙ ap (λ t. now ++ t) (sym (next_kept true flag)) ∙ so_far

  pub left_out : (now all : List ℕ) → get_or flags i false ≡ false → now ++ kept_from new flags pool i ≡ all
      → now ++ kept_from new flags pool (i + 1) ≡ all
  left_out now all flag so_far = ap (λ t. now ++ t) (sym (next_kept false flag)) ∙ so_far
