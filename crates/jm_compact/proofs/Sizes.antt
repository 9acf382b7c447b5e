-- The pool of kept slots has no longer text.
use Rattle.std.proofs.Common.{◌≡◌, ℕ, ◌≤◌, Bool, true, false, List, [], ◌∷◌, length, map, All, refl, ap, arith, length-append}
use Rattle.std.proofs.lemmas.List.{append-nil}
use Rattle.std.proofs.lemmas.List.Elements.{All-head, All-tail}
use Rattle.std.specs.List.{flat_map}
use Rattle.jm_class.specs.Classes.{SlotData, Constant, Hole, IsPoolFrom, slot_text, pool_text}
use Rattle.jm_classout.specs.Fits.{FitsSlot}
use Rattle.jm_classout.proofs.ClassTexts.{slots_fit}
use Rattle.jm_compact.specs.Compact.{new_number, renamed, kept, compact_pool}
use Rattle.jm_compact.proofs.Shapes.{length-renamed}

slots_shorter : (new : ℕ → ℕ) (flags : List Bool) (pool : List SlotData) → All FitsSlot pool
    → length (flat_map slot_text (map (renamed new) (kept flags pool))) ≤ length (flat_map slot_text pool)
slots_shorter new [] pool fits = omega arith
slots_shorter new (flag ∷ flags) [] fits = omega arith
slots_shorter new (true ∷ flags) (slot ∷ pool) fits =
    let rest = slots_shorter new flags pool (All-tail FitsSlot slot pool fits) in
    let same = as_long slot (All-head FitsSlot slot pool fits) in
    let one = length-append (slot_text (renamed new slot)) (flat_map slot_text (map (renamed new) (kept flags pool))) in
    let two = length-append (slot_text slot) (flat_map slot_text pool) in
    omega (arith, rest, same, one, two)
  where
    as_long : (slot : SlotData) → FitsSlot slot → length (slot_text (renamed new slot)) ≡ length (slot_text slot)
    as_long Hole fits = refl
    as_long (Constant tag body) fits = length-renamed new tag body fits
slots_shorter new (false ∷ flags) (slot ∷ pool) fits =
    let rest = slots_shorter new flags pool (All-tail FitsSlot slot pool fits) in
    let two = length-append (slot_text slot) (flat_map slot_text pool) in
    omega (arith, rest, two)

pub pool_shorter : (flags : List Bool) (pool : List SlotData) → IsPoolFrom false pool → length (pool_text (compact_pool flags pool))
    ≤ length (pool_text pool)
pool_shorter flags pool is =
    let less = slots_shorter (new_number flags) flags pool (slots_fit false pool is) in
    let one = ap length (append-nil (flat_map slot_text (compact_pool flags pool))) in
    let two = ap length (append-nil (flat_map slot_text pool)) in
    omega (arith, less, one, two)
