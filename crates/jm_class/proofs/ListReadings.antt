-- Lists that are read one item after another: what was read so far, before what is still to come.
use Rattle.std.proofs.Common.{◌≡◌, ℕ, suc, ◌+◌, ◌-◌, ◌<◌, Bool, List, [], ◌∷◌, ◌++◌, Ok, Err, refl, arith, append_assoc}
use Rattle.std.proofs.lemmas.Bool.Decides.{nat_tests}
use Rattle.std.specs.Prelude.{nat_lt}
use Rattle.jm_class.specs.declared.class.ClassFault.{ClassFault}
use Rattle.jm_class.specs.declared.class.ClassFault.TheVariants.{Short}
use Rattle.jm_class.specs.Classes.{SlotData}
use Rattle.jm_class.specs.ClassLayout.{slot_field, slots, is_wide_slot}
use Rattle.jm_class.specs.Layouts.{reading}
use Rattle.jm_class.specs.Readings.{Left, Outcome, Reading, value, continued, counted}

-- the items so far before those that a reading gives; a fault stays
abbrev pub prefixed : {F A : Type 0} → List A → Outcome F (List A) → Outcome F (List A)
prefixed front (Ok r) = Ok (front ++ r.0, r.1)
prefixed front (Err fault) = Err fault

-- one item goes from what is to come to what was read
item_moved : {F A : Type 0} (front : List A) (item : A) (outcome : Outcome F (List A))
    → prefixed front (continued outcome (λ items. value (item ∷ items))) ≡ prefixed (front ++ item ∷ []) outcome
item_moved front item (Ok r) =
    let moved = append_assoc front (item ∷ []) r.0 in
    rw moved refl
item_moved front item (Err fault) = refl

-- That many of one kind

pub counted-next : {F A : Type 0} (count k : ℕ) (reading : Reading F A) (front : List A) (left next : Left) (item : A) → k < count
    → reading left ≡ Ok (item, next) → prefixed front (counted (count - k) reading left) ≡ prefixed (front ++ item ∷ [])
    (counted (count - (k + 1)) reading next)
counted-next count k reading front left next item more e =
    let number : count - k ≡ suc (count - (k + 1)) = omega arith in
    rw (number, e) (item_moved front item (counted (count - (k + 1)) reading next))

pub counted-stop : {F A : Type 0} (count k : ℕ) (reading : Reading F A) (front : List A) (left : Left) (fault : F) → k < count
    → reading left ≡ Err fault → prefixed front (counted (count - k) reading left) ≡ Err fault
counted-stop count k reading front left fault more e =
    let number : count - k ≡ suc (count - (k + 1)) = omega arith in
    rw (number, e) refl

-- The numbers of a pool

-- one more is needed after this number
pub same_test : (count k : ℕ) → k < count → nat_lt 0 (count - (k + 1)) ≡ nat_lt (k + 1) count
same_test count k more = grind (arith, nat_tests)

pub slots-next : (count k : ℕ) (due : Bool) (front : List SlotData) (left next : Left) (slot : SlotData) → k < count
    → reading Short (slot_field due (nat_lt (k + 1) count)) left ≡ Ok (slot, next) → prefixed front (reading Short (slots (count - k) due) left)
    ≡ prefixed (front ++ slot ∷ []) (reading Short (slots (count - (k + 1)) (is_wide_slot slot)) next)
slots-next count k due front left next slot more e =
    let number : count - k ≡ suc (count - (k + 1)) = omega arith in
    rw (number, same_test count k more, e) (item_moved front slot (reading Short (slots (count - (k + 1)) (is_wide_slot slot)) next))

pub slots-stop : (count k : ℕ) (due : Bool) (front : List SlotData) (left : Left) (fault : ClassFault) → k < count
    → reading Short (slot_field due (nat_lt (k + 1) count)) left ≡ Err fault → prefixed front (reading Short (slots (count - k) due) left) ≡ Err fault
slots-stop count k due front left fault more e =
    let number : count - k ≡ suc (count - (k + 1)) = omega arith in
    rw (number, same_test count k more, e) refl
