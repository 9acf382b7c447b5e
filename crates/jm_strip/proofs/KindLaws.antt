-- The kinds of a pool, one after another.
use Rattle.std.proofs.Common.{◌≡◌, ℕ, suc, ◌+◌, ◌-◌, ◌<◌, Bool, List, [], ◌∷◌, ◌++◌, map, Ok, Err, refl, sym, ap, ◌∙◌, arith, append_assoc}
use Rattle.std.specs.Prelude.{nat_lt}
use Rattle.jm_class.specs.declared.class.ClassFault.{ClassFault}
use Rattle.jm_class.specs.Classes.{SlotData}
use Rattle.jm_class.specs.ClassLayout.{slot_field, slots, is_wide_slot}
use Rattle.jm_class.specs.Layouts.{reading}
use Rattle.jm_class.specs.Readings.{Left}
use Rattle.jm_class.proofs.ListReadings.{same_test}
use Rattle.jm_strip.specs.Kinds.{kind_of}
use Rattle.jm_strip.specs.declared.kind.AttributeKind.{AttributeKind}
use Rattle.jm_strip.specs.Walks.{shown}
use Rattle.jm_class.specs.declared.class.ClassFault.TheVariants.{Short}
use Rattle.jm_strip.proofs.Shown.{shown-cons}

pub kinds-next : (count k : ℕ) (due : Bool) (left next : Left) (slot : SlotData) (old new : List AttributeKind) → k < count
    → reading Short (slot_field due (nat_lt (k + 1) count)) left ≡ Ok (slot, next) → new ≡ old ++ kind_of slot ∷ []
    → shown (λ xs. old ++ map kind_of xs) (reading Short (slots (count - k) due) left) ≡ shown (λ xs. new ++ map kind_of xs)
    (reading Short (slots (count - (k + 1)) (is_wide_slot slot)) next)
kinds-next count k due left next slot old new more e grown =
    let number : count - k ≡ suc (count - (k + 1)) = omega arith in
    rw (number, same_test count k more, e)
    (shown-cons (λ xs. old ++ map kind_of xs) (λ xs. new ++ map kind_of xs) slot
    (λ xs. sym (append_assoc old (kind_of slot ∷ []) (map kind_of xs)) ∙ ap (λ ks. ks ++ map kind_of xs) (sym grown))
    (reading Short (slots (count - (k + 1)) (is_wide_slot slot)) next))

pub kinds-stop : (count k : ℕ) (due : Bool) (left : Left) (old : List AttributeKind) (fault : ClassFault) → k < count
    → reading Short (slot_field due (nat_lt (k + 1) count)) left ≡ Err fault → shown (λ xs. old ++ map kind_of xs) (reading Short (slots (count - k) due) left) ≡ Err fault
kinds-stop count k due left old fault more e =
    let number : count - k ≡ suc (count - (k + 1)) = omega arith in
    rw (number, same_test count k more, e) refl
