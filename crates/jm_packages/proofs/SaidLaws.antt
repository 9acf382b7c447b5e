-- The class with the list says exactly these packages, and a class says no others.
use Rattle.std.proofs.Common.{◌≡◌, ℕ, ◌+◌, ◌*◌, ◌^◌, ◌<◌, Bool, true, false, not, ◌&&◌, ◌||◌, List, [], ◌∷◌, ◌++◌}
use Rattle.std.proofs.Common.{cond, length, Some, None, refl, sym, ap, ◌∙◌, subst, arith, append_assoc}
use Rattle.std.proofs.Common.{length-append}
use Rattle.std.proofs.lemmas.Bool.{false≢true}
use Rattle.std.proofs.lemmas.List.Elements.{filter_map-append}
use Rattle.std.proofs.lemmas.Nat.{from_be_bytes-to_be_bytes_2}
use Rattle.std.specs.List.{cons_option, list_any}
use Rattle.std.specs.Prelude.{nat_lt, option_and_then}
use Rattle.jm_class.specs.Classes.{SlotData, Constant, AttributeData, ClassData, u2, slot_at, utf8_of, utf8_at, IsClass}
use Rattle.jm_class.specs.Layouts.{Says, SaysEach}
use Rattle.jm_bytes.proofs.Choice.{same_ok}
use Rattle.jm_class.proofs.LayoutLaws.{says-whole}
use Rattle.jm_modinfo.specs.Constants.{named_at, named_by}
use Rattle.jm_modinfo.specs.declared.constants.Kind.TheVariants.{Package}
use Rattle.jm_modinfo.specs.declared.faults.InfoFault.{InfoFault}
use Rattle.jm_modinfo.specs.declared.faults.InfoFault.TheVariants.{Short, Rest}
use Rattle.jm_modinfo.specs.Descriptors.{bodies, bytes_named, is_named, plain_bytes}
use Rattle.jm_modinfo.specs.Flags.{is_module}
use Rattle.jm_modinfo.specs.ModuleLayout.{allowed, named, names}
use Rattle.jm_modinfo.specs.Written.{utf8, numbers_text}
use Rattle.jm_packages.specs.Packages.{attribute_name, package_slots, added_slots, packages_attribute, packages_body}
use Rattle.jm_packages.specs.Packages.{with_packages, has_packages, has_room, takes_packages, packaged}
use Rattle.jm_packages.specs.Packages.{SaysPackages, IsListed}
use Rattle.jm_packages.proofs.PackagedLaws.{room, slot_after, name_there, same_bodies}

-- The numbers of the constants

-- a Package constant that holds the number of a text stands for it
package_there : (pool : List SlotData) (at number : ℕ) (text : List ℕ) → number < 2 ^ 16 → slot_at pool at
    ≡ Some (Constant 20 (u2 number)) → slot_at pool number ≡ Some (utf8 text) → named_at pool Package at ≡ Some text
package_there pool at number text below is holds =
    ap (option_and_then (named_by pool Package)) is
    ∙ ap (λ (n : ℕ). utf8_at pool n) (from_be_bytes-to_be_bytes_2 number below) ∙ ap (option_and_then utf8_of) holds

-- the numbers say the packages whose constants stand after others in the pool
numbers-said : (pool front : List SlotData) (number : ℕ) (packages : List (List ℕ)) → pool ≡ front ++ package_slots number packages
    → number ≡ length front + 1 → number + 2 * length packages < 2 ^ 16
    → SaysEach (Says (named pool Package)) packages (numbers_text (number + 1) (length packages))
numbers-said pool front number [] is at below = refl
numbers-said pool front number (p ∷ packages) is at below =
    let rest = package_slots (number + 2) packages in
    let holder = Constant 20 (u2 number) in
    let one : pool ≡ (front ++ utf8 p ∷ []) ++ holder ∷ rest = is ∙ sym (append_assoc front (utf8 p ∷ []) (holder ∷ rest)) in
    let both : pool ≡ (front ++ utf8 p ∷ holder ∷ []) ++ rest = is ∙ sym (append_assoc front (utf8 p ∷ holder ∷ []) rest) in
    let size_one = length-append front (utf8 p ∷ []) in
    let size_both = length-append front (utf8 p ∷ holder ∷ []) in
    let name : slot_at pool number ≡ Some (utf8 p) =
    ap (λ k. slot_at k number) is ∙ ap (slot_at (front ++ utf8 p ∷ holder ∷ rest)) at ∙ slot_after front (holder ∷ rest) (utf8 p) in
    let next : number + 1 ≡ length (front ++ utf8 p ∷ []) + 1 = omega (arith, at, size_one) in
    let constant : slot_at pool (number + 1) ≡ Some holder =
    ap (λ k. slot_at k (number + 1)) one ∙ ap (slot_at ((front ++ utf8 p ∷ []) ++ holder ∷ rest)) next
    ∙ slot_after (front ++ utf8 p ∷ []) rest holder in
    let found = package_there pool (number + 1) number p (omega (arith, below)) constant name in
    let more = numbers-said pool (front ++ utf8 p ∷ holder ∷ []) (number + 2) packages both (omega (arith, at, size_both))
    (omega (arith, below)) in
    let step : number + 2 + 1 ≡ number + 1 + 2 = omega arith in (
      u2 (number + 1),
      numbers_text (number + 1 + 2) (length packages),
      refl,
      (
        number + 1,
        ap (allowed Package) found,
        (omega (arith, below), refl),
      ),
      rw step at more,
    )

-- The attribute

no_bodies : (pool : List SlotData) (attributes : List AttributeData)
    → list_any (λ a. is_named attribute_name (utf8_at pool a.name)) attributes ≡ false → bodies pool attribute_name attributes ≡ []
no_bodies pool [] none = refl
no_bodies pool (a ∷ attributes) none =
    go (is_named attribute_name (utf8_at pool a.name)) none (no_bodies pool attributes)
  where
    go : (b : Bool) → (b || list_any (λ a. is_named attribute_name (utf8_at pool a.name)) attributes) ≡ false
        → (list_any (λ a. is_named attribute_name (utf8_at pool a.name)) attributes ≡ false
        → bodies pool attribute_name attributes ≡ []) → cons_option (cond b (plain_bytes a.body) None)
        (bodies pool attribute_name attributes) ≡ []
    go true none rest = absurd (false≢true (sym none))
    go false none rest = rest none

-- a class that takes a list has none
takes_first : (packages : List (List ℕ)) (c : ClassData) → takes_packages packages c ≡ true → has_packages c ≡ false
takes_first packages c takes = go (is_module c.access) (nat_lt c.major 53) (has_packages c) (has_room packages c) takes
  where
    go : (flagged low has fits : Bool) → (not (not flagged || low || has) && fits) ≡ true → has ≡ false
    go true false false fits is = refl
    go true false true fits is = absurd (false≢true is)
    go true true has fits is = absurd (false≢true is)
    go false low has fits is = absurd (false≢true is)

module _ (packages : List (List ℕ)) (c : ClassData) (is : IsClass c) (takes : takes_packages packages c ≡ true) where
  abbrev all : List SlotData
  all = c.pool ++ added_slots (length c.pool + 1) packages

  abbrev own : AttributeData
  own = packages_attribute (length c.pool + 1) packages

  one_body : bodies all attribute_name (c.attributes ++ own ∷ []) ≡ packages_body (length c.pool + 1) (length packages) ∷ []
  one_body =
      let here : bytes_named all attribute_name own ≡ Some (packages_body (length c.pool + 1) (length packages)) =
      ap (λ o. cond (is_named attribute_name o) (plain_bytes own.body) None) (name_there c.pool packages) in
      let none : bodies all attribute_name c.attributes ≡ [] =
      same_bodies packages c is attribute_name c.attributes is.attributes.1
      ∙ no_bodies c.pool c.attributes (takes_first packages c takes) in
      filter_map-append (bytes_named all attribute_name) c.attributes (own ∷ [])
      ∙ ap (λ o. bodies all attribute_name c.attributes ++ cons_option o []) here
      ∙ ap (λ bs. bs ++ packages_body (length c.pool + 1) (length packages) ∷ []) none

  body_said : Says (names all Package) packages (packages_body (length c.pool + 1) (length packages))
  body_said =
      let slots = (room packages c takes).slots in
      let number = length c.pool + 1 + 1 in
      let size = length-append c.pool (utf8 attribute_name ∷ []) in
      let numbers = numbers-said all (c.pool ++ utf8 attribute_name ∷ []) number packages
      (sym (append_assoc c.pool (utf8 attribute_name ∷ []) (package_slots number packages)))
      (omega (arith, size)) (omega (arith, slots)) in
      let same : number + 1 ≡ length c.pool + 1 + 2 = omega arith in (
        length packages,
        u2 (length packages),
        numbers_text (length c.pool + 1 + 2) (length packages),
        refl,
        (omega (arith, slots), refl),
        (refl, rw same at numbers),
      )

  with-said : SaysPackages (with_packages packages c) packages
  with-said = record {
    body = packages_body (length c.pool + 1) (length packages);
    only = one_body;
    says = body_said;
  }

pub packaged-said : (packages : List (List ℕ)) (c : ClassData) → IsClass c → IsListed packages c (packaged packages c)
packaged-said packages c is = record {
  taken = λ takes. subst (λ k. SaysPackages k packages) (sym (ap (λ b. cond b (with_packages packages c) c) takes))
      (with-said packages c is takes);
  other = λ stays. ap (λ b. cond b (with_packages packages c) c) stays;
}

-- a class says one list of packages
pub packages_once : (c : ClassData) (packages others : List (List ℕ)) → SaysPackages c packages → SaysPackages c others
    → packages ≡ others
packages_once c packages others one two =
    let same : one.body ≡ two.body = bodies_same one.body two.body (sym one.only ∙ two.only) in
    let layout = names c.pool Package in
    let first = says-whole Short Rest layout one.body packages one.says in
    let second = says-whole Short Rest layout one.body others (subst (Says layout others) (sym same) two.says) in
    same_ok {E = InfoFault} packages others (sym first ∙ second)
  where
    bodies_same : (a b : List ℕ) → a ∷ [] ≡ b ∷ [] → a ≡ b
    bodies_same a b e = cc
