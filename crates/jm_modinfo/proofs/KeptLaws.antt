-- The texts that are kept of the constants of a pool, each at the place of its constant.
use Rattle.std.proofs.Common.{◌≡◌, ℕ, zero, suc, ◌-◌, ◌<◌, Bool, true, false, List, [], ◌∷◌, length, replicate, get_or, Option, Some, None, sym, ◌∙◌, subst}
use Rattle.std.proofs.Common.{arith}
use Rattle.std.specs.Prelude.{◌==◌, if◌then◌else◌, option_and_then, slice_get, slice_set}
use Rattle.jm_class.specs.Classes.{SlotData, utf8_of, utf8_at}
use Rattle.jm_class.specs.declared.class.Slot.{Slot}
use Rattle.jm_class.specs.Views.{pool_of}
use Rattle.jm_modinfo.specs.Constants.{IsKept, AreKept}

-- nothing is kept at first
pub kept_none : (slots : List Slot) → AreKept (pool_of slots) (replicate (length slots) None)
kept_none [] = tt
kept_none (slot ∷ slots) = (tt, kept_none slots)

-- the constant at a place is the Utf8 of a text
abbrev IsAt : List ℕ → List SlotData → ℕ → Type 0
IsAt text pool place = Some text ≡ option_and_then utf8_of (slice_get pool place)

at_place : (text : List ℕ) (pool : List SlotData) (index : ℕ) → Some text ≡ utf8_at pool index → IsAt text pool (index - 1)
at_place text pool index is = go (index == 0) is
  where
    go : (first : Bool) → Some text ≡ option_and_then utf8_of (if first then None else slice_get pool (index - 1)) → IsAt text pool (index - 1)
    go true is = cc
    go false is = is

module _ (text : List ℕ) where
  within : (pool : List SlotData) (kept : List (Option (List ℕ))) (place : ℕ) → AreKept pool kept → IsAt text pool place
      → place < length kept
  within [] kept place are is = cc
  within (slot ∷ pool) [] place are is = absurd are
  within (slot ∷ pool) (one ∷ kept) zero are is = omega arith
  within (slot ∷ pool) (one ∷ kept) (suc place) are is =
      let less = within pool kept place are.1 is in
      omega (arith, less)

  found : (pool : List SlotData) (kept : List (Option (List ℕ))) (place : ℕ) (item : Option (List ℕ)) (other : List ℕ)
      → AreKept pool kept → IsAt text pool place → item ≡ get_or kept place item → item ≡ Some other
      → Some other ≡ option_and_then utf8_of (slice_get pool place)
  found [] kept place item other are is read some = cc
  found (slot ∷ pool) [] place item other are is read some = absurd are
  found (slot ∷ pool) (one ∷ kept) zero item other are is read some = sym (subst (IsKept slot) (sym read ∙ some) are.0)
  found (slot ∷ pool) (one ∷ kept) (suc place) item other are is read some = found pool kept place item other are.1 is read some

  more : (pool : List SlotData) (kept : List (Option (List ℕ))) (place : ℕ) → AreKept pool kept → IsAt text pool place
      → AreKept pool (slice_set kept place (Some text))
  more [] kept place are is = cc
  more (slot ∷ pool) [] place are is = absurd are
  more (slot ∷ pool) (one ∷ kept) zero are is = (sym is, are.1)
  more (slot ∷ pool) (one ∷ kept) (suc place) are is = (are.0, more pool kept place are.1 is)

-- the Utf8 of a number has a place among what is kept; a text that stands there is that of the
-- Utf8, and its text may be put there
module _ (pool : List SlotData) (kept : List (Option (List ℕ))) (index : ℕ) (text : List ℕ) (are : AreKept pool kept)
    (is : Some text ≡ utf8_at pool index) where
  pub kept_within : index - 1 < length kept
  kept_within = within text pool kept (index - 1) are (at_place text pool index is)

  pub kept_text : (item : Option (List ℕ)) (other : List ℕ) → item ≡ get_or kept (index - 1) item → item ≡ Some other
      → Some other ≡ utf8_at pool index
  kept_text item other read some =
      found text pool kept (index - 1) item other are (at_place text pool index is) read some ∙ sym (at_place text pool index is) ∙ is

  pub kept_more : AreKept pool (slice_set kept (index - 1) (Some text))
  kept_more = more text pool kept (index - 1) are (at_place text pool index is)
