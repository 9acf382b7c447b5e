-- What a class says as a descriptor, it says with more constants after its own.
use Rattle.std.proofs.Common.{◌≡◌, ℕ, Bool, true, false, not, cond, List, [], ◌∷◌, ◌++◌}
use Rattle.std.proofs.Common.{Option, Some, None, Result, Ok, Err, refl, ap, ◌∙◌}
use Rattle.std.specs.Prelude.{nat_eq, nat_lt, option_map, option_and_then, if◌then◌else◌}
use Rattle.jm_class.specs.Classes.{SlotData, Constant, Hole, ClassData, slot_at, utf8_at}
use Rattle.jm_class.specs.Layouts.{Layout, U2, Value, Number}
use Rattle.jm_class.proofs.LayoutLaws.{Stays, same-stays, field-stays, then-stays, listed-stays, whole-stays}
use Rattle.jm_modinfo.specs.ComputedInfo.{body_info, only_body, main_named, main_of, with_info, with_body}
use Rattle.jm_modinfo.specs.Constants.{tag_of, number_in, named_by, named_at, version_at}
use Rattle.jm_modinfo.specs.ModuleLayout.{allowed, refused, named, version, names, need, opened, provides, module_layout}
use Rattle.jm_modinfo.specs.declared.constants.Kind.{Kind}
use Rattle.jm_modinfo.specs.declared.constants.Kind.TheVariants.{Class, Module, Package}
use Rattle.jm_modinfo.specs.declared.descriptor.Descriptor.{Descriptor}
use Rattle.jm_modinfo.specs.declared.faults.InfoFault.{InfoFault}
use Rattle.jm_modinfo.specs.declared.faults.InfoFault.TheVariants.{NotModule, OldVersion, Index, Short, Rest}
use Rattle.jm_modinfo.specs.Flags.{is_module}
use Rattle.jm_packages.proofs.MorePool.{slot_stays, utf8_stays}

-- Fields

module _ (pool more : List SlotData) where
  abbrev longer : List SlotData
  longer = pool ++ more

  by_stays : (kind : Kind) (slot : SlotData) (text : List ℕ) → named_by pool kind slot ≡ Some text → named_by longer kind slot ≡ Some text
  by_stays kind Hole text is = cc
  by_stays kind (Constant tag body) text is = go (nat_eq tag (tag_of kind)) (number_in body) is
    where
      go : (b : Bool) (number : Option ℕ) → cond b (option_and_then (utf8_at pool) number) None ≡ Some text
          → cond b (option_and_then (utf8_at longer) number) None ≡ Some text
      go false number same = cc
      go true None same = cc
      go true (Some n) same = utf8_stays pool more n text same

  named_stays : (kind : Kind) (index : ℕ) (text : List ℕ) → named_at pool kind index ≡ Some text → named_at longer kind index ≡ Some text
  named_stays kind index text is = go (slot_at pool index) refl is
    where
      go : (o : Option SlotData) → slot_at pool index ≡ o → option_and_then (named_by pool kind) o ≡ Some text
          → named_at longer kind index ≡ Some text
      go None found none = cc
      go (Some slot) found some = ap (option_and_then (named_by longer kind)) (slot_stays pool more index slot found)
          ∙ by_stays kind slot text some

  version_stays : (index : ℕ) (version : Option (List ℕ)) → version_at pool index ≡ Some version → version_at longer index ≡ Some version
  version_stays index version is = go (nat_eq index 0) (utf8_at pool index) refl is
    where
      go : (b : Bool) (o : Option (List ℕ)) → utf8_at pool index ≡ o → cond b (Some None) (option_map (λ text. Some text) o)
          ≡ Some version → cond b (Some None) (option_map (λ text. Some text) (utf8_at longer index)) ≡ Some version
      go true o found same = same
      go false None found same = cc
      go false (Some text) found same = ap (option_map (λ text. Some text)) (utf8_stays pool more index text found) ∙ same

  allowed_stays : (kind : Kind) (n : ℕ) (text : List ℕ) → allowed kind (named_at pool kind n) ≡ Some text
      → allowed kind (named_at longer kind n) ≡ Some text
  allowed_stays kind n text is = go (named_at pool kind n) refl is
    where
      go : (o : Option (List ℕ)) → named_at pool kind n ≡ o → allowed kind o ≡ Some text → allowed kind (named_at longer kind n) ≡ Some text
      go None there none = cc
      go (Some other) there some = ap (allowed kind) (named_stays kind n other there) ∙ some

  -- The layout

  abbrev LayoutStays : {A : Type 0} → (List SlotData → Layout InfoFault A) → Type 0
  LayoutStays layout = Stays Short (layout pool) (layout longer)

  name_stays : (kind : Kind) → LayoutStays (λ pool. named pool kind)
  name_stays kind = field-stays Short U2 _ _ (refused pool kind) (refused longer kind) (allowed_stays kind)

  names_stay : (kind : Kind) → LayoutStays (λ pool. names pool kind)
  names_stay kind = listed-stays Short _ _ (name_stays kind)

  versions_stay : LayoutStays version
  versions_stay = field-stays Short U2 _ _ (λ at n. Index at) (λ at n. Index at) version_stays

  need_stays : LayoutStays need
  need_stays =
      then-stays Short _ _ _ _ (name_stays Module) (λ name.
      then-stays Short _ _ _ _ (same-stays Short (Number U2)) (λ flags.
      then-stays Short _ _ _ _ versions_stay (λ version. same-stays Short (Value _))))

  opened_stays : LayoutStays opened
  opened_stays =
      then-stays Short _ _ _ _ (name_stays Package) (λ name.
      then-stays Short _ _ _ _ (same-stays Short (Number U2)) (λ flags.
      then-stays Short _ _ _ _ (names_stay Module) (λ to. same-stays Short (Value _))))

  provides_stays : LayoutStays provides
  provides_stays =
      then-stays Short _ _ _ _ (name_stays Class) (λ service.
      then-stays Short _ _ _ _ (names_stay Class) (λ classes. same-stays Short (Value _)))

  module_stays : LayoutStays module_layout
  module_stays =
      then-stays Short _ _ _ _ (name_stays Module) (λ name.
      then-stays Short _ _ _ _ (same-stays Short (Number U2)) (λ flags.
      then-stays Short _ _ _ _ versions_stay (λ version.
      then-stays Short _ _ _ _ (listed-stays Short _ _ need_stays) (λ needs.
      then-stays Short _ _ _ _ (listed-stays Short _ _ opened_stays) (λ exports.
      then-stays Short _ _ _ _ (listed-stays Short _ _ opened_stays) (λ opens.
      then-stays Short _ _ _ _ (names_stay Class) (λ uses.
      then-stays Short _ _ _ _ (listed-stays Short _ _ provides_stays) (λ provides. same-stays Short (Value _)))))))))

  -- What a class says

  body_stays : (bytes : List ℕ) (d : Descriptor) → body_info pool bytes ≡ Ok d → body_info longer bytes ≡ Ok d
  body_stays bytes d is = whole-stays Short Rest (module_layout pool) (module_layout longer) bytes d module_stays is

  main_stays : (bodies : List (List ℕ)) (main : Option (List ℕ)) → main_of pool bodies ≡ Ok main → main_of longer bodies ≡ Ok main
  main_stays [] main is = is
  main_stays (bytes ∷ other ∷ rest) main is = cc
  main_stays (bytes ∷ []) main is = go (number_in bytes) is
    where
      go : (number : Option ℕ) → main_named (option_and_then (named_at pool Class) number) ≡ Ok main
          → main_named (option_and_then (named_at longer Class) number) ≡ Ok main
      go None none = cc
      go (Some n) some = found (named_at pool Class n) refl some
        where
          found : (o : Option (List ℕ)) → named_at pool Class n ≡ o → main_named o ≡ Ok main → main_named (named_at longer Class n)
              ≡ Ok main
          found None gone none = cc
          found (Some text) there same = ap main_named (named_stays Class n text there) ∙ same

  both_stay : (old new : Result Descriptor InfoFault) (main later : Result (Option (List ℕ)) InfoFault) (d : Descriptor)
      → ((e : Descriptor) → old ≡ Ok e → new ≡ Ok e) → ((m : Option (List ℕ)) → main ≡ Ok m → later ≡ Ok m) → with_info old main
      ≡ Ok d → with_info new later ≡ Ok d
  both_stay (Ok e) new (Ok m) later d first second is = ap (λ x. with_info x later) (first e refl)
      ∙ ap (with_info (Ok e)) (second m refl) ∙ is
  both_stay (Ok e) new (Err fault) later d first second is = cc
  both_stay (Err fault) new main later d first second is = cc

  said_stays : (only : Result (List ℕ) InfoFault) (bodies : List (List ℕ)) (d : Descriptor)
      → with_body pool only (main_of pool bodies) ≡ Ok d → with_body longer only (main_of longer bodies) ≡ Ok d
  said_stays (Ok bytes) bodies d is = both_stay (body_info pool bytes) (body_info longer bytes) (main_of pool bodies)
      (main_of longer bodies) d (body_stays bytes) (main_stays bodies) is
  said_stays (Err fault) bodies d is = cc

-- what a class says with a pool, by the bodies of its two attributes
abbrev pub info_by : List SlotData → ClassData → List (List ℕ) → List (List ℕ) → Result Descriptor InfoFault
info_by pool c modules mains =
    if not (is_module c.access) then Err NotModule
    else if nat_lt c.major 53 then Err (OldVersion c.major)
    else with_body pool (only_body modules) (main_of pool mains)

choice_stays : (flagged old : Bool) (major : ℕ) (said later : Result Descriptor InfoFault) (d : Descriptor)
    → (said ≡ Ok d → later ≡ Ok d) → (if not flagged then Err NotModule else if old then Err (OldVersion major) else said) ≡ Ok d
    → (if not flagged then Err NotModule else if old then Err (OldVersion major) else later) ≡ Ok d
choice_stays false old major said later d same is = cc
choice_stays true true major said later d same is = cc
choice_stays true false major said later d same is = same is

-- a class that says something says it with more constants
pub info_stays : (pool more : List SlotData) (c : ClassData) (modules mains : List (List ℕ)) (d : Descriptor)
    → info_by pool c modules mains ≡ Ok d → info_by (pool ++ more) c modules mains ≡ Ok d
info_stays pool more c modules mains d is =
    choice_stays (is_module c.access) (nat_lt c.major 53) c.major (with_body pool (only_body modules) (main_of pool mains))
    (with_body (pool ++ more) (only_body modules) (main_of (pool ++ more) mains)) d
    (said_stays pool more (only_body modules) mains d) is
