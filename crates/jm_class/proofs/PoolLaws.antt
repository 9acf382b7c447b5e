-- The constants of a pool are laid out exactly as their texts stand.
use Rattle.std.proofs.Common.{◌≡◌, ℕ, zero, suc, ◌+◌, ◌-◌, ◌^◌, ◌<◌, inl, inr, Bool, true, false, cond, ◌||◌}
use Rattle.std.proofs.Common.{List, [], ◌∷◌, ◌++◌, length, Option, Some, None, refl, sym, ap, ◌∙◌, subst}
use Rattle.std.proofs.Common.{arith}
use Rattle.std.proofs.lemmas.Bool.{and_parts, and_from, eqb-true, eq-eqb, ltb-true, lt-ltb, or_right, false≢true}
use Rattle.std.proofs.lemmas.Bool.Decides.{nat_tests}
use Rattle.std.proofs.lemmas.List.{append-nil, nil_from_length}
use Rattle.std.specs.List.{flat_map}
use Rattle.std.specs.Prelude.{is_some, nat_eq, nat_lt}
use Rattle.jm_class.specs.declared.class.ClassFault.TheVariants.{Short, Index}
use Rattle.jm_class.specs.Classes.{SlotData, Constant, Hole, u1, u2, joined, body_text, slot_text, pool_text}
use Rattle.jm_class.specs.Classes.{body_size, is_tag, is_wide, FitsTag, IsPoolFrom}
use Rattle.jm_class.specs.ClassLayout.{is_tag_where, tag_fault, tag_field, body_of_size, body_field, constant}
use Rattle.jm_class.specs.ClassLayout.{slot_field, is_wide_slot, slots, pool_field}
use Rattle.jm_class.specs.Layouts.{U1, U2, Says}
use Rattle.jm_class.proofs.TextLaws.{Always, Lawful, value-lawful, said-lawful, made-lawful, told-lawful, tested-lawful}
use Rattle.jm_class.proofs.TextLaws.{then-lawful, bytes-lawful, number-lawful}

-- a Long or a Double needs one number more
abbrev HasRoom : Bool → ℕ → Type 0
HasRoom more tag = cond (is_wide tag) more true ≡ true

tag-lawful : (more : Bool) → Lawful (tag_field more) u1 (λ tag. (tag < 2 ^ 8) × (is_tag_where more tag ≡ true))
tag-lawful more = tested-lawful U1 (is_tag_where more) tag_fault

text-lawful : Lawful (body_of_size None) (λ body. joined (u2 (length body) ∷ body ∷ [])) (λ body. length body < 2 ^ 16)
text-lawful =
    told-lawful Short _ _ _ (said-lawful _ (λ body. joined (u2 (length body) ∷ body ∷ [])) _ (λ body. length body < 2 ^ 16)
    (then-lawful _ _ u2 _ length (λ xs. xs) Always (λ _ _. Unit {0}) (number-lawful U2)
    (λ size fits. said-lawful _ _ _ _ (bytes-lawful size) (λ xs is. ((tt, is), tt)) (λ xs is. is.0.1) (λ xs is. refl)))
    (λ xs fits. fits.1.0) (λ xs fits. (tt, (fits, tt))) (λ xs fits. ap (λ t. u2 (length xs) ++ t) (sym (append-nil xs))))

-- the tags of a size aren't that of a Utf8
sized_tag : (tag size : ℕ) → body_size tag ≡ Some size → nat_eq tag 1 ≡ false
sized_tag tag size e = go (nat_eq tag 1) refl
  where
    go : (b : Bool) → nat_eq tag 1 ≡ b → nat_eq tag 1 ≡ false
    go false test = test
    go true test = let none : body_size tag ≡ None = ap body_size (eqb-true tag 1 test) in let both = sym none ∙ e in cc

utf8_tag : (tag : ℕ) → is_tag tag ≡ true → body_size tag ≡ None → tag ≡ 1
utf8_tag tag is none = eqb-true tag 1 (one (nat_eq tag 1) (ap (λ o. nat_eq tag 1 || is_some o) (sym none) ∙ is))
  where
    one : (b : Bool) → b || false ≡ true → b ≡ true
    one true e = refl
    one false e = e

body-lawful : (tag : ℕ) → is_tag tag ≡ true → Lawful (body_field tag) (body_text tag) (FitsTag tag)
body-lawful tag is = go (body_size tag) refl
  where
    fits_sized : (size : ℕ) → body_size tag ≡ Some size → (body : List ℕ) → FitsTag tag body → length body ≡ size
    fits_sized size e body (inl fits) =
        let test = sized_tag tag size e in let other = eq-eqb tag 1 fits.0 in absurd (false≢true (sym test ∙ other))
    fits_sized size e body (inr same) = let both = sym same ∙ e in cc

    fits_text : body_size tag ≡ None → (body : List ℕ) → FitsTag tag body → length body < 2 ^ 16
    fits_text e body (inl fits) = fits.1
    fits_text e body (inr same) = let both = sym e ∙ same in cc

    go : (o : Option ℕ) → body_size tag ≡ o → Lawful (body_of_size o) (body_text tag) (FitsTag tag)
    go (Some size) e =
        said-lawful _ (body_text tag) _ (FitsTag tag) (bytes-lawful size)
        (λ body fits. inr (e ∙ ap (λ n. Some n) (sym fits))) (fits_sized size e)
        (λ body fits. let test = sized_tag tag size e in rw test refl)
    go None e =
        said-lawful _ (body_text tag) _ (FitsTag tag) text-lawful
        (λ body fits. inl (utf8_tag tag is e, fits)) (fits_text e)
        (λ body fits. let test = eq-eqb tag 1 (utf8_tag tag is e) in rw test refl)

-- A constant

abbrev tag_in : SlotData → ℕ
tag_in (Constant tag body) = tag
tag_in Hole = 0

abbrev body_in : SlotData → List ℕ
body_in (Constant tag body) = body
body_in Hole = []

abbrev IsConstant : SlotData → Type 0
IsConstant (Constant tag body) = Unit {0}
IsConstant Hole = ⊥

known_tag : (tag : ℕ) (body : List ℕ) → FitsTag tag body → (tag < 2 ^ 8) × (is_tag tag ≡ true)
known_tag tag body (inl fits) = (let is = fits.0 in omega (arith, is), ap is_tag fits.0)
known_tag tag body (inr same) = (below (nat_lt tag 256) refl, or_right (nat_eq tag 1) (is_some (body_size tag)) (ap is_some same))
  where
    below : (b : Bool) → nat_lt tag 256 ≡ b → tag < 2 ^ 8
    below true test = ltb-true tag 256 test
    below false test = let none : body_size tag ≡ None = grind (arith, nat_tests) in let both = sym none ∙ same in cc

-- what a slot is: a hole where one is due, else a constant that has room
abbrev pub IsSlot : Bool → Bool → SlotData → Type 0
IsSlot true more Hole = Unit {0}
IsSlot false more (Constant tag body) = FitsTag tag body × HasRoom more tag
IsSlot _ more _ = ⊥

constant-lawful : (more : Bool) → Lawful (constant more) slot_text (IsSlot false more)
constant-lawful more =
    said-lawful (λ s. u1 (tag_in s) ++ (body_text (tag_in s) (body_in s) ++ [])) slot_text _ (IsSlot false more)
    (then-lawful _ _ u1 _ tag_in (λ s. body_text (tag_in s) (body_in s) ++ []) IsConstant (λ tag s. FitsTag tag (body_in s))
    (tag-lawful more) (λ tag fit.
    said-lawful (λ s. body_text tag (body_in s) ++ []) (λ s. body_text (tag_in s) (body_in s) ++ []) _ _
    (then-lawful _ _ _ _ body_in _ _ _ (body-lawful tag (and_parts (is_tag tag) _ fit.1).0)
    (λ body fits. made-lawful (λ s. (IsConstant s × (tag_in s ≡ tag)) × (body_in s ≡ body)) (Constant tag body)
    ((tt, refl), refl) only))
    (λ s fits. (fits.0, fits.1.0)) (λ s fits. (fits.0, (fits.1, tt)))
    (λ s fits. ap (λ t. body_text t (body_in s) ++ []) (sym fits.0.1))))
    says fits same
  where
    only : {tag : ℕ} {body : List ℕ} (s : SlotData) → (IsConstant s × (tag_in s ≡ tag)) × (body_in s ≡ body) → s ≡ Constant tag body
    only (Constant tag body) e = rw (e.0.1, e.1) refl
    only Hole e = absurd e.0.0

    says : (s : SlotData) → IsConstant s × (((tag_in s < 2 ^ 8) × (is_tag_where more (tag_in s) ≡ true))
        × FitsTag (tag_in s) (body_in s)) → IsSlot false more s
    says (Constant tag body) fits = (fits.1.1, (and_parts (is_tag tag) _ fits.1.0.1).1)
    says Hole fits = absurd fits.0

    fits : (s : SlotData) → IsSlot false more s → IsConstant s × (((tag_in s < 2 ^ 8) × (is_tag_where more (tag_in s) ≡ true)) × FitsTag (tag_in s) (body_in s))
    fits (Constant tag body) is =
        let known = known_tag tag body is.0 in
        (tt, ((known.0, and_from (is_tag tag) _ known.1 is.1), is.0))
    fits Hole is = absurd is

    same : (s : SlotData) → IsConstant s × (((tag_in s < 2 ^ 8) × (is_tag_where more (tag_in s) ≡ true))
        × FitsTag (tag_in s) (body_in s)) → u1 (tag_in s) ++ (body_text (tag_in s) (body_in s) ++ []) ≡ slot_text s
    same (Constant tag body) fits = refl
    same Hole fits = absurd fits.0

slot-lawful : (due more : Bool) → Lawful (slot_field due more) slot_text (IsSlot due more)
slot-lawful false more = constant-lawful more
slot-lawful true more = said-lawful (λ _. []) slot_text (IsSlot true more) (IsSlot true more) (value-lawful (IsSlot true more) Hole
    tt only) (λ s is. is) (λ s is. is) same
  where
    only : (s : SlotData) → IsSlot true more s → s ≡ Hole
    only Hole is = refl
    only (Constant tag body) is = absurd is

    same : (s : SlotData) → IsSlot true more s → [] ≡ slot_text s
    same Hole is = refl
    same (Constant tag body) is = absurd is

-- The numbers of a pool

-- a hole is due only where a number is left
abbrev Due : Bool → ℕ → Type 0
Due due n = due ≡ true → 0 < n

due_behind : (due : Bool) (n : ℕ) (slot : SlotData) → IsSlot due (nat_lt 0 n) slot → Due (is_wide_slot slot) n
due_behind true n Hole is wide = cc
due_behind false n Hole is wide = absurd is
due_behind true n (Constant tag body) is wide = absurd is
due_behind false n (Constant tag body) is wide = ltb-true 0 n (sym (ap (λ b. cond b (nat_lt 0 n) true) wide) ∙ is.1)

pool_cons : (due more : Bool) (slot : SlotData) (slots : List SlotData) → IsSlot due more slot
    → IsPoolFrom (is_wide_slot slot) slots → IsPoolFrom due (slot ∷ slots)
pool_cons true more Hole slots is rest = rest
pool_cons false more Hole slots is rest = absurd is
pool_cons true more (Constant tag body) slots is rest = absurd is
pool_cons false more (Constant tag body) slots is rest = (is.0, rest)

-- after a Long or a Double a hole stands
room : (b : Bool) (n : ℕ) (slots : List SlotData) → length slots ≡ n → IsPoolFrom b slots → cond b (nat_lt 0 n) true ≡ true
room false n slots size pool = refl
room true n [] size pool = cc
room true n (slot ∷ slots) size pool = lt-ltb 0 n (omega (arith, size))

pool_head : (due : Bool) (n : ℕ) (slot : SlotData) (slots : List SlotData) → length slots ≡ n → IsPoolFrom due (slot ∷ slots)
    → IsSlot due (nat_lt 0 n) slot × IsPoolFrom (is_wide_slot slot) slots
pool_head true n Hole slots size pool = (tt, pool)
pool_head false n Hole slots size pool = absurd pool
pool_head true n (Constant tag body) slots size pool = absurd pool
pool_head false n (Constant tag body) slots size pool = ((pool.0, room (is_wide tag) n slots size pool.1), pool.1)

abbrev Numbers : ℕ → Bool → List SlotData → Type 0
Numbers n due xs = (length xs ≡ n) × IsPoolFrom due xs

pub slots-lawful : (n : ℕ) (due : Bool) → (due ≡ true → 0 < n) → Lawful (slots n due) (flat_map slot_text) (λ xs. (length xs ≡ n)
    × IsPoolFrom due xs)
slots-lawful zero true room = absurd (let none = room refl in omega (arith, none))
slots-lawful zero false room = record {
  back = λ xs bytes says. let none = sym says.0 in (subst (Numbers 0 false) none (refl, refl), says.1 ∙ ap (flat_map slot_text) none);
  forth = λ xs fits. let none = nil_from_length xs fits.0 in (none, ap (flat_map slot_text) none);
}
slots-lawful (suc n) due room = record { back = back (slots-lawful n); forth = forth (slots-lawful n) }
  where
    back : ((d : Bool) → (d ≡ true → 0 < n) → Lawful (slots n d) (flat_map slot_text) (Numbers n d))
        → (xs : List SlotData) (bytes : List ℕ) → Says (slots (suc n) due) xs bytes
        → Numbers (suc n) due xs × (bytes ≡ flat_map slot_text xs)
    back more xs bytes (slot, front, after, is, one, (others, body, last, parts, two, (same, none))) =
        let first = (slot-lawful due (nat_lt 0 n)).back slot front one in
        let rest = (more (is_wide_slot slot) (due_behind due n slot first.0)).back others body two in (
          subst (Numbers (suc n) due) (sym same) (ap suc rest.0.0, pool_cons due (nat_lt 0 n) slot others first.0 rest.0.1),
          is ∙ rw (parts, first.1, rest.1, none, append-nil (flat_map slot_text others)) (ap (flat_map slot_text) (sym same)),
        )

    forth : ((d : Bool) → (d ≡ true → 0 < n) → Lawful (slots n d) (flat_map slot_text) (Numbers n d))
        → (xs : List SlotData) → Numbers (suc n) due xs → Says (slots (suc n) due) xs (flat_map slot_text xs)
    forth more [] fits = absurd (omega (arith, fits.0))
    forth more (x ∷ xs) fits =
        let size : length xs ≡ n = omega (arith, fits.0) in
        let parts = pool_head due n x xs size fits.1 in
        let rest = (more (is_wide_slot x) (due_behind due n x parts.0)).forth xs (size, parts.1) in (
          x,
          slot_text x,
          flat_map slot_text xs,
          refl,
          (slot-lawful due (nat_lt 0 n)).forth x parts.0,
          (xs, flat_map slot_text xs, [], sym (append-nil (flat_map slot_text xs)), rest, (refl, refl)),
        )

-- the pool with its count, which is one more than its numbers
pub pool-lawful : Lawful pool_field pool_text (λ pool. (length pool < 65535) × IsPoolFrom false pool)
pool-lawful =
    said-lawful _ pool_text _ (λ pool. (length pool < 65535) × IsPoolFrom false pool)
    (then-lawful _ _ u2 _ (λ pool. length pool + 1) (flat_map slot_text) Always (λ _ pool. IsPoolFrom false pool)
    (tested-lawful U2 (λ count. nat_lt 0 count) (λ at count. Index at))
    (λ count fits. said-lawful _ _ _ _ (slots-lawful (count - 1) false (λ e. cc))
    (λ xs is. ((tt, let some = ltb-true 0 count fits.1 in let size = is.0 in omega (arith, some, size)), is.1))
    (λ xs is. (let size = is.0.1 in omega (arith, size), is.1)) (λ xs is. refl)))
    (λ pool fits. (let size = fits.1.0.0 in omega (arith, size), fits.1.1))
    (λ pool fits. (tt, ((let size = fits.0 in omega (arith, size), lt-ltb 0 (length pool + 1) (omega arith)), fits.1)))
    (λ pool fits. ap (λ t. u2 (length pool + 1) ++ t) (sym (append-nil (flat_map slot_text pool))))
