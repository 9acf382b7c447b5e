-- The fields of a class are laid out exactly as their texts stand.
use Rattle.std.proofs.Common.{◌≡◌, ℕ, ◌*◌, ◌/◌, ◌%◌, ◌^◌, ◌<◌, Bool, true, false, ◌&&◌, List, [], ◌++◌, length, refl, sym, ap, arith}
use Rattle.std.proofs.lemmas.List.{append-nil}
use Rattle.std.specs.Prelude.{is_some}
use Rattle.jm_class.specs.declared.class.ClassFault.TheVariants.{Index, CodeLength}
use Rattle.jm_class.specs.Classes.{SlotData, CodeData, BodyData, Opaque, Coded, u2, sized_text, rows_text}
use Rattle.jm_class.specs.Classes.{opaque_text, code_text, held_text, attribute_text, member_text, utf8_at}
use Rattle.jm_class.specs.Classes.{is_code_name, NamesText, FitsSized, IsOpaque, IsCode, IsBody, IsAttribute}
use Rattle.jm_class.specs.Classes.{IsMember}
use Rattle.jm_class.specs.ClassLayout.{name_field, opaque_field, rows_field, code_fields, code_field}
use Rattle.jm_class.specs.ClassLayout.{held_field, attribute_field, member_field}
use Rattle.jm_class.specs.Layouts.{U2}
use Rattle.jm_class.proofs.TextLaws.{Always, Lawful, sized-lawful, sized_bytes-lawful, listed-lawful, said-lawful, made-lawful}
use Rattle.jm_class.proofs.TextLaws.{tested-lawful, then-lawful, bytes-lawful, number-lawful}

pub name-lawful : (pool : List SlotData) → Lawful (name_field pool) u2 (NamesText pool)
name-lawful pool = tested-lawful U2 (λ name. is_some (utf8_at pool name)) (λ at name. Index at)

pub opaque-lawful : (pool : List SlotData) → Lawful (opaque_field pool) opaque_text (IsOpaque pool)
opaque-lawful pool =
    said-lawful _ opaque_text _ (IsOpaque pool)
    (then-lawful _ _ _ _ (λ a. a.name) _ Always _ (name-lawful pool) (λ name named.
    then-lawful _ _ _ _ (λ a. a.bytes) _ _ _ sized_bytes-lawful (λ bytes fit.
    made-lawful _ (record { name = name; bytes = bytes }) ((tt, refl), refl) (λ a e. rw (sym e.0.1, sym e.1) refl))))
    (λ a fits. record { name = fits.1.0; bytes = fits.1.1.0 })
    (λ a fits. (tt, (fits.name, (fits.bytes, tt))))
    (λ a fits. refl)

pub rows-lawful : Lawful rows_field rows_text (λ rows. (length rows / 8 < 2 ^ 16) × (length rows % 8 ≡ 0))
rows-lawful =
    said-lawful _ rows_text _ (λ rows. (length rows / 8 < 2 ^ 16) × (length rows % 8 ≡ 0))
    (then-lawful _ _ u2 _ (λ rows. length rows / 8) (λ rows. rows) Always (λ count rows. length rows ≡ 8 * count)
    (number-lawful U2)
    (λ count fits. said-lawful _ _ _ _ (bytes-lawful (8 * count)) (λ rows is. ((tt, omega (arith, is)), is))
    (λ rows is. is.1) (λ rows is. refl)))
    (λ rows fits. (fits.1.0, let is = fits.1.1 in omega (arith, is)))
    (λ rows fits. (tt, (fits.0, let is = fits.1 in omega (arith, is))))
    (λ rows fits. ap (λ t. u2 (length rows / 8) ++ t) (sym (append-nil rows)))

pub code_fields-lawful : (pool : List SlotData) → Lawful (code_fields pool) code_text (IsCode pool)
code_fields-lawful pool =
    said-lawful _ code_text _ (IsCode pool)
    (then-lawful _ _ _ _ (λ c. c.max_stack) _ Always _ (number-lawful U2) (λ max_stack f1.
    then-lawful _ _ _ _ (λ c. c.max_locals) _ _ _ (number-lawful U2) (λ max_locals f2.
    then-lawful _ _ _ _ (λ c. c.code) _ _ _ sized_bytes-lawful (λ code f3.
    then-lawful _ _ _ _ (λ c. c.handlers) _ _ _ rows-lawful (λ handlers f4.
    then-lawful _ _ _ _ (λ c. c.attributes) _ _ _ (listed-lawful _ _ _ (opaque-lawful pool)) (λ attributes f5.
    made-lawful _ (record { max_stack = max_stack; max_locals = max_locals; code = code; handlers = handlers; attributes = attributes })
    (((((tt, refl), refl), refl), refl), refl)
    (λ c e. rw (sym e.0.0.0.0.1, sym e.0.0.0.1, sym e.0.0.1, sym e.0.1, sym e.1) refl)))))))
    (λ c fits. record {
      max_stack = fits.1.0;
      max_locals = fits.1.1.0;
      code = fits.1.1.1.0;
      rows = fits.1.1.1.1.0.0;
      handlers = fits.1.1.1.1.0.1;
      attributes = fits.1.1.1.1.1.0;
    })
    (λ c fits. (tt, (fits.max_stack, (fits.max_locals, (fits.code, ((fits.rows, fits.handlers), (fits.attributes, tt)))))))
    (λ c fits. refl)

-- What an attribute holds

pub code-lawful : (pool : List SlotData) → Lawful (code_field pool) (λ c. sized_text (code_text c)) (λ c. IsCode pool c
    × FitsSized (code_text c))
code-lawful pool = sized-lawful CodeLength (code_fields pool) code_text (IsCode pool) (code_fields-lawful pool)

abbrev no_code : CodeData
no_code = record { max_stack = 0; max_locals = 0; code = []; handlers = []; attributes = [] }

abbrev code_in : BodyData → CodeData
code_in (Opaque bytes) = no_code
code_in (Coded code) = code

abbrev IsCoded : BodyData → Type 0
IsCoded (Opaque bytes) = ⊥
IsCoded (Coded code) = Unit {0}

pub held-lawful : (pool : List SlotData) (coded : Bool) → Lawful (held_field pool coded) (λ b. sized_text (held_text b))
    (λ b. IsBody pool coded b × FitsSized (held_text b))
held-lawful pool false =
    said-lawful _ (λ b. sized_text (held_text b)) _ (λ b. IsBody pool false b × FitsSized (held_text b))
    (then-lawful _ _ _ _ held_text _ (IsBody pool false) _ sized_bytes-lawful (λ bytes fit. made-lawful _ (Opaque bytes)
    (tt, refl) only))
    (λ b fits. (fits.0, fits.1.0)) (λ b fits. (fits.0, (fits.1, tt))) (λ b fits. append-nil (sized_text (held_text b)))
  where
    only : {bytes : List ℕ} (b : BodyData) → IsBody pool false b × (held_text b ≡ bytes) → b ≡ Opaque bytes
    only (Opaque other) e = ap (λ t. Opaque t) e.1
    only (Coded code) e = absurd e.0
held-lawful pool true =
    said-lawful _ (λ b. sized_text (held_text b)) _ (λ b. IsBody pool true b × FitsSized (held_text b))
    (then-lawful _ _ _ _ code_in _ IsCoded _ (code-lawful pool) (λ code fit. made-lawful _ (Coded code) (tt, refl) only))
    says fits same
  where
    only : {code : CodeData} (b : BodyData) → IsCoded b × (code_in b ≡ code) → b ≡ Coded code
    only (Opaque other) e = absurd e.0
    only (Coded code) e = ap (λ c. Coded c) e.1

    says : (b : BodyData) → IsCoded b × ((IsCode pool (code_in b) × FitsSized (code_text (code_in b))) × Unit {0})
        → IsBody pool true b × FitsSized (held_text b)
    says (Opaque bytes) fits = absurd fits.0
    says (Coded code) fits = fits.1.0

    fits : (b : BodyData) → IsBody pool true b × FitsSized (held_text b) → IsCoded b
        × ((IsCode pool (code_in b) × FitsSized (code_text (code_in b))) × Unit {0})
    fits (Opaque bytes) says = absurd says.0
    fits (Coded code) says = (tt, (says, tt))

    same : (b : BodyData) → IsCoded b × ((IsCode pool (code_in b) × FitsSized (code_text (code_in b))) × Unit {0})
        → sized_text (code_text (code_in b)) ++ [] ≡ sized_text (held_text b)
    same (Opaque bytes) fits = absurd fits.0
    same (Coded code) fits = append-nil (sized_text (code_text code))

-- Attributes and members

pub attribute-lawful : (pool : List SlotData) (in_method : Bool) → Lawful (attribute_field pool in_method) attribute_text
    (IsAttribute pool in_method)
attribute-lawful pool in_method =
    said-lawful _ attribute_text _ (IsAttribute pool in_method)
    (then-lawful _ _ _ _ (λ a. a.name) _ Always (λ name a. (IsBody pool (in_method && is_code_name (utf8_at pool name)) a.body
    × FitsSized (held_text a.body)) × Unit {0}) (name-lawful pool) (λ name named.
    then-lawful _ _ _ _ (λ a. a.body) _ _ _ (held-lawful pool (in_method && is_code_name (utf8_at pool name))) (λ body fit.
    made-lawful _ (record { name = name; body = body }) ((tt, refl), refl) (λ a e. rw (sym e.0.1, sym e.1) refl))))
    (λ a fits. record { name = fits.1.0; body = fits.1.1.0.0; bytes = fits.1.1.0.1 })
    (λ a fits. (tt, (fits.name, ((fits.body, fits.bytes), tt))))
    (λ a fits. refl)

pub member-lawful : (pool : List SlotData) (in_method : Bool) → Lawful (member_field pool in_method) member_text (IsMember pool in_method)
member-lawful pool in_method =
    said-lawful _ member_text _ (IsMember pool in_method)
    (then-lawful _ _ _ _ (λ m. m.access) _ Always _ (number-lawful U2) (λ access f1.
    then-lawful _ _ _ _ (λ m. m.name) _ _ _ (number-lawful U2) (λ name f2.
    then-lawful _ _ _ _ (λ m. m.descriptor) _ _ _ (number-lawful U2) (λ descriptor f3.
    then-lawful _ _ _ _ (λ m. m.attributes) _ _ _ (listed-lawful _ _ _ (attribute-lawful pool in_method)) (λ attributes f4.
    made-lawful _ (record { access = access; name = name; descriptor = descriptor; attributes = attributes })
    ((((tt, refl), refl), refl), refl)
    (λ m e. rw (sym e.0.0.0.1, sym e.0.0.1, sym e.0.1, sym e.1) refl))))))
    (λ m fits. record { access = fits.1.0; name = fits.1.1.0; descriptor = fits.1.1.1.0; attributes = fits.1.1.1.1.0 })
    (λ m fits. (tt, (fits.access, (fits.name, (fits.descriptor, (fits.attributes, tt))))))
    (λ m fits. refl)
