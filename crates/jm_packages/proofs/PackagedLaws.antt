-- The class of a module that names its packages is well formed, says the same descriptor, and
-- takes no second list.
use Rattle.std.proofs.Common.{◌≡◌, ℕ, zero, suc, ◌+◌, ◌-◌, ◌*◌, ◌<◌, ◌≤◌, inl, inr, Bool, true, false, not}
use Rattle.std.proofs.Common.{cond, ◌&&◌, ◌||◌, List, [], ◌∷◌, ◌++◌, length, Some, None, Ok, codes, refl, ap}
use Rattle.std.proofs.Common.{◌∙◌, arith, length-append}
use Rattle.std.proofs.lemmas.Bool.{and_parts, ltb-true, leb-true, ne_eqb}
use Rattle.std.proofs.lemmas.List.{append-nil}
use Rattle.std.proofs.lemmas.List.Elements.{All-append, All-cons, All-head, All-nil, All-tail, All-weaker, filter_map-append}
use Rattle.std.proofs.lemmas.List.Folds.{list_any-append}
use Rattle.std.proofs.lemmas.Option.{slice_get-get_or}
use Rattle.std.proofs.Math.Seq.{get_or-append_seam}
use Rattle.std.specs.List.{cons_option, list_all, list_any}
use Rattle.std.specs.Prelude.{All, is_some, nat_eq, nat_le, nat_lt, slice_get, option_and_then}
use Rattle.jm_class.specs.Classes.{SlotData, AttributeData, ClassData, slot_at, utf8_of, utf8_at, IsPoolFrom, IsAttribute, IsClass}
use Rattle.jm_modinfo.specs.declared.descriptor.Descriptor.{Descriptor}
use Rattle.jm_modinfo.specs.ComputedInfo.{info_of}
use Rattle.jm_modinfo.specs.Descriptors.{bodies, bytes_named, is_named, module_bodies, main_bodies, plain_bytes}
use Rattle.jm_modinfo.specs.Flags.{is_module}
use Rattle.jm_modinfo.specs.Written.{utf8, numbers_text}
use Rattle.jm_packages.specs.Packages.{attribute_name, package_slots, added_slots, packages_attribute}
use Rattle.jm_packages.specs.Packages.{with_packages, has_packages, has_room, takes_none, takes_packages}
use Rattle.jm_packages.specs.Packages.{packaged}
use Rattle.jm_packages.proofs.MorePool.{pool_longer, attribute_stays, members_stay, text_stays}
use Rattle.jm_packages.proofs.MoreInfo.{info_by, info_stays}

-- What there is room for

pub record Room (packages : List (List ℕ)) (c : ClassData) : Type 0 where
  pub slots : length c.pool + 1 + 2 * length packages ≤ 65534
  pub attributes : length c.attributes < 65535
  pub each : list_all (λ p. nat_le (length p) 65535) packages ≡ true

pub room : (packages : List (List ℕ)) (c : ClassData) → takes_packages packages c ≡ true → Room packages c
room packages c takes =
    let parts = and_parts (not (takes_none c)) (has_room packages c) takes in
    let fits = and_parts (nat_le (length c.pool + 1 + 2 * length packages) 65534 && nat_lt (length c.attributes) 65535)
    (list_all (λ p. nat_le (length p) 65535) packages) parts.1 in
    let rest = and_parts (nat_le (length c.pool + 1 + 2 * length packages) 65534) (nat_lt (length c.attributes) 65535) fits.0 in
    record {
      slots = leb-true (length c.pool + 1 + 2 * length packages) 65534 rest.0;
      attributes = ltb-true (length c.attributes) 65535 rest.1;
      each = fits.1;
    }

-- Well formed

slots_fit : (number : ℕ) (packages : List (List ℕ)) → list_all (λ p. nat_le (length p) 65535) packages ≡ true
    → IsPoolFrom false (package_slots number packages)
slots_fit number [] each = refl
slots_fit number (p ∷ packages) each =
    let parts = and_parts (nat_le (length p) 65535) (list_all (λ p. nat_le (length p) 65535) packages) each in
    let short = leb-true (length p) 65535 parts.0 in
    (inl (refl, omega (arith, short)), (inr refl, slots_fit (number + 2) packages parts.1))

pub length-slots : (number : ℕ) (packages : List (List ℕ)) → length (package_slots number packages) ≡ 2 * length packages
length-slots number [] = refl
length-slots number (p ∷ packages) = let rest = length-slots (number + 2) packages in omega (arith, rest)

length-numbers : (number count : ℕ) → length (numbers_text number count) ≡ 2 * count
length-numbers number zero = refl
length-numbers number (suc count) = let rest = length-numbers (number + 2) count in omega (arith, rest)

-- a constant that stands after others has the next number
pub slot_after : (front rest : List SlotData) (slot : SlotData) → slot_at (front ++ slot ∷ rest) (length front + 1) ≡ Some slot
slot_after front rest slot =
    let all = front ++ slot ∷ rest in
    let long = length-append front (slot ∷ rest) in
    let test : nat_eq (length front + 1) 0 ≡ false = ne_eqb (length front + 1) 0 (λ e. absurd (omega (arith, e))) in
    let place : length front + 1 - 1 ≡ length front = omega arith in
    ap (λ b. cond b None (slice_get all (length front + 1 - 1))) test ∙ ap (slice_get all) place
    ∙ slice_get-get_or all (length front) slot (omega (arith, long))
    ∙ ap (λ s. Some s) (get_or-append_seam front slot rest slot)

-- the name of the attribute stands after the pool
pub name_there : (pool : List SlotData) (packages : List (List ℕ)) → utf8_at (pool ++ added_slots (length pool + 1) packages)
    (length pool + 1) ≡ Some attribute_name
name_there pool packages =
    ap (option_and_then utf8_of) (slot_after pool (package_slots (length pool + 1 + 1) packages) (utf8 attribute_name))

attribute_fits : (pool : List SlotData) (packages : List (List ℕ)) → length pool + 1 + 2 * length packages ≤ 65534
    → IsAttribute (pool ++ added_slots (length pool + 1) packages) false (packages_attribute (length pool + 1) packages)
attribute_fits pool packages fits =
    let size = length-numbers (length pool + 1 + 2) (length packages) in record {
      name = (omega (arith, fits), ap is_some (name_there pool packages));
      body = tt;
      bytes = omega (arith, fits, size);
    }

pub with-class : (packages : List (List ℕ)) (c : ClassData) → takes_packages packages c ≡ true → IsClass c
    → IsClass (with_packages packages c)
with-class packages c takes is =
    let has = room packages c takes in
    let more = added_slots (length c.pool + 1) packages in
    let long = length-append c.pool more in
    let size = length-slots (length c.pool + 1 + 1) packages in
    let slots = has.slots in
    let own = packages_attribute (length c.pool + 1) packages in
    let many = length-append c.attributes (own ∷ []) in
    let few = has.attributes in record {
      minor = is.minor;
      major = is.major;
      slots = omega (arith, long, size, slots);
      pool = pool_longer false c.pool more is.pool (inl (refl, omega arith), slots_fit (length c.pool + 1 + 1) packages has.each);
      access = is.access;
      this_class = is.this_class;
      super_class = is.super_class;
      interfaces = is.interfaces;
      fields = members_stay c.pool more false c.fields is.fields;
      methods = members_stay c.pool more true c.methods is.methods;
      attributes = (
        omega (arith, many, few),
        All-append (IsAttribute (c.pool ++ more) false) c.attributes (own ∷ [])
            (All-weaker (IsAttribute c.pool false) (IsAttribute (c.pool ++ more) false) (attribute_stays c.pool more false)
            c.attributes is.attributes.1)
            (All-cons (IsAttribute (c.pool ++ more) false) own [] (attribute_fits c.pool packages slots)
            (All-nil (IsAttribute (c.pool ++ more) false))),
      );
    }

-- either the class takes the list, or it stays
pub packaged_cases : (P : ClassData → Type 0) (packages : List (List ℕ)) (c : ClassData) → (takes_packages packages c ≡ true
    → P (with_packages packages c)) → (takes_packages packages c ≡ false → P c) → P (packaged packages c)
packaged_cases P packages c takes stays = go (takes_packages packages c) refl
  where
    go : (b : Bool) → takes_packages packages c ≡ b → P (cond b (with_packages packages c) c)
    go true is = takes is
    go false is = stays is

pub packaged-class : (packages : List (List ℕ)) (c : ClassData) → IsClass c → IsClass (packaged packages c)
packaged-class packages c is = packaged_cases IsClass packages c (λ takes. with-class packages c takes is) (λ stays. is)

-- of the same version
pub packaged-major : (packages : List (List ℕ)) (c : ClassData) → (packaged packages c).major ≡ c.major
packaged-major packages c = packaged_cases (λ k. k.major ≡ c.major) packages c (λ takes. refl) (λ stays. refl)

-- Once

pub has_listed : (packages : List (List ℕ)) (c : ClassData) → has_packages (with_packages packages c) ≡ true
has_listed packages c =
    let all = c.pool ++ added_slots (length c.pool + 1) packages in
    let own = packages_attribute (length c.pool + 1) packages in
    let test = λ (a : AttributeData). is_named attribute_name (utf8_at all a.name) in
    let here : test own ≡ true = ap (is_named attribute_name) (name_there c.pool packages) in
    list_any-append test c.attributes (own ∷ []) ∙ ap (λ b. list_any test c.attributes || (b || false)) here
    ∙ or_true (list_any test c.attributes)
  where
    or_true : (b : Bool) → (b || true) ≡ true
    or_true true = refl
    or_true false = refl

-- a class that takes no list stays
pub none_stays : (packages : List (List ℕ)) (c : ClassData) → takes_none c ≡ true → packaged packages c ≡ c
none_stays packages c none = ap (λ b. cond (not b && has_room packages c) (with_packages packages c) c) none

-- one that has a list takes no other one
listed_none : (c : ClassData) → has_packages c ≡ true → takes_none c ≡ true
listed_none c has = go (is_module c.access) (nat_lt c.major 53) (has_packages c) has
  where
    go : (flagged low named : Bool) → named ≡ true → (not flagged || low || named) ≡ true
    go false low named there = refl
    go true true named there = refl
    go true false named there = there

-- a second time nothing changes
pub packaged_again : (packages_of : ClassData → List (List ℕ)) (c : ClassData)
    → packaged (packages_of (packaged (packages_of c) c)) (packaged (packages_of c) c) ≡ packaged (packages_of c) c
packaged_again packages_of c =
    let packages = packages_of c in
    let more = with_packages packages c in
    packaged_cases (λ k. packaged (packages_of k) k ≡ k) packages c
    (λ takes. none_stays (packages_of more) more (listed_none more (has_listed packages c)))
    (λ stays. ap (λ b. cond b more c) stays)

-- The same descriptor

module _ (packages : List (List ℕ)) (c : ClassData) (is : IsClass c) where
  abbrev more : List SlotData
  more = added_slots (length c.pool + 1) packages

  abbrev own : AttributeData
  own = packages_attribute (length c.pool + 1) packages

  pub same_bodies : (name : List ℕ) (attributes : List AttributeData) → All (IsAttribute c.pool false) attributes
      → bodies (c.pool ++ more) name attributes ≡ bodies c.pool name attributes
  same_bodies name [] all = refl
  same_bodies name (a ∷ attributes) all =
      let first = text_stays c.pool more a.name (All-head (IsAttribute c.pool false) a attributes all).name.1 in
      ap (λ o. cons_option (cond (is_named name o) (plain_bytes a.body) None) (bodies (c.pool ++ more) name attributes)) first
      ∙ ap (cons_option (bytes_named c.pool name a)) (same_bodies name attributes (All-tail (IsAttribute c.pool false) a attributes all))

  bodies_with : (name : List ℕ) → is_named name (Some attribute_name) ≡ false → bodies (c.pool ++ more) name (c.attributes ++ own
      ∷ []) ≡ bodies c.pool name c.attributes
  bodies_with name other =
      let named : is_named name (utf8_at (c.pool ++ more) (length c.pool + 1)) ≡ false =
      ap (is_named name) (name_there c.pool packages) ∙ other in
      let none : bytes_named (c.pool ++ more) name own ≡ None = ap (λ b. cond b (plain_bytes own.body) None) named in
      filter_map-append (bytes_named (c.pool ++ more) name) c.attributes (own ∷ [])
      ∙ ap (λ o. bodies (c.pool ++ more) name c.attributes ++ cons_option o []) none
      ∙ append-nil (bodies (c.pool ++ more) name c.attributes)
      ∙ same_bodies name c.attributes is.attributes.1

  with-info : (d : Descriptor) → info_of c ≡ Ok d → info_of (with_packages packages c) ≡ Ok d
  with-info d says =
      ap (λ bs. info_by (c.pool ++ more) c bs (main_bodies (with_packages packages c))) (bodies_with (codes "Module") refl)
      ∙ ap (info_by (c.pool ++ more) c (module_bodies c)) (bodies_with (codes "ModuleMainClass") refl)
      ∙ info_stays c.pool more c (module_bodies c) (main_bodies c) d says

-- what the class of a module says, it says with the list too
pub packaged-info : (packages : List (List ℕ)) (c : ClassData) (d : Descriptor) → IsClass c → info_of c ≡ Ok d
    → info_of (packaged packages c) ≡ Ok d
packaged-info packages c d is says = packaged_cases (λ k. info_of k ≡ Ok d) packages c (λ takes. with-info packages c is d says)
    (λ stays. says)
