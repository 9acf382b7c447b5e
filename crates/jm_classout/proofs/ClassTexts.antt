-- The text of a class as parts put one after another, and its length.
use Rattle.std.proofs.Common.{◌≡◌, ℕ, ◌+◌, ◌*◌, Bool, true, false, List, [], ◌∷◌, ◌++◌, length, refl}
use Rattle.std.proofs.Common.{sym, ◌∙◌, arith, append_assoc, length-append}
use Rattle.std.proofs.lemmas.List.{append-nil}
use Rattle.std.proofs.lemmas.List.Elements.{All-nil, All-cons}
use Rattle.std.specs.List.{flat_map}
use Rattle.std.specs.Prelude.{All}
use Rattle.jm_class.specs.Classes.{SlotData, Constant, Hole, ClassData, u2, joined, slot_text, member_text}
use Rattle.jm_class.specs.Classes.{attribute_text, class_text, is_wide, IsPoolFrom}
use Rattle.jm_classout.specs.Fits.{FitsSlot}

-- parts put after a text, one after another
abbrev pub put_all : List ℕ → List (List ℕ) → List ℕ
put_all text [] = text
put_all text (part ∷ parts) = put_all (text ++ part) parts

pub put_all-joined : (text : List ℕ) (parts : List (List ℕ)) → put_all text parts ≡ text ++ joined parts
put_all-joined text [] = sym (append-nil text)
put_all-joined text (part ∷ parts) = put_all-joined (text ++ part) parts ∙ append_assoc text part (joined parts)

-- each constant of a pool is as its tag says
pub slots_fit : (due : Bool) (slots : List SlotData) → IsPoolFrom due slots → All FitsSlot slots
slots_fit due [] pool = All-nil FitsSlot
slots_fit true (Hole ∷ slots) pool = All-cons FitsSlot Hole slots tt (slots_fit false slots pool)
slots_fit false (Hole ∷ slots) pool = absurd pool
slots_fit true (Constant tag body ∷ slots) pool = absurd pool
slots_fit false (Constant tag body ∷ slots) pool = All-cons FitsSlot (Constant tag body) slots pool.0 (slots_fit (is_wide tag) slots pool.1)

length-numbers : (xs : List ℕ) → length (flat_map u2 xs) ≡ 2 * length xs
length-numbers [] = refl
length-numbers (x ∷ xs) = let more = length-numbers xs in omega (arith, more)

pub class_length : (c : ClassData) → length (class_text c) ≡ 24 + length (flat_map slot_text c.pool) + 2 * length c.interfaces
    + length (flat_map member_text c.fields) + length (flat_map member_text c.methods) + length (flat_map attribute_text c.attributes)
class_length c =
    let numbers = length-numbers c.interfaces in
    simp length-append (omega (arith, numbers))
