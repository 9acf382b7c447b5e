-- The fault of the class of a module that is computed is the one that is ruled, both ways.
use Rattle.std.proofs.Common.{◌≡◌, ℕ, ◌<◌, ◌≤◌, Bool, true, false, List, [], ◌∷◌, length, Option, Some, None, Result, Ok, Err, refl, sym}
use Rattle.std.proofs.Common.{ap, ◌∙◌, arith}
use Rattle.std.proofs.lemmas.Bool.{ltb-true, ltb-false, lt-ltb, le-ltb}
use Rattle.std.specs.Prelude.{nat_lt, not, option_and_then, OnOk}
use Rattle.jm_bytes.proofs.Choice.{same_some}
use Rattle.jm_bytes.specs.Checks.{fault_if, first_fault}
use Rattle.jm_class.specs.Classes.{ClassData}
use Rattle.jm_class.specs.Layouts.{fault_of, text_fields}
use Rattle.jm_class.proofs.FaultLaws.{no_fault}
use Rattle.jm_class.proofs.LayoutLaws.{whole-fault, fault-whole, whole-good}
use Rattle.jm_modinfo.proofs.InfoLaws.{described_sound, described_fault}
use Rattle.jm_modinfo.specs.InfoFaults.{HasBody, IsNoMain, HasInfoFault, InAccess, InMajor, InNone}
use Rattle.jm_modinfo.specs.InfoFaults.{InMany, InBody, InMain}
use Rattle.jm_modinfo.specs.ComputedInfo.{only_body, body_info, main_named, main_of, info_of}
use Rattle.jm_modinfo.specs.Constants.{number_in, named_at}
use Rattle.jm_modinfo.specs.declared.constants.Kind.TheVariants.{Class}
use Rattle.jm_modinfo.specs.declared.descriptor.Descriptor.{Descriptor}
use Rattle.jm_bytes.specs.declared.faults.Or.{Or}
use Rattle.jm_bytes.specs.declared.faults.Or.TheVariants.{Fault}
use Rattle.jm_modinfo.specs.declared.faults.InfoFault.{InfoFault}
use Rattle.jm_modinfo.specs.declared.faults.InfoFault.TheVariants as info
use Rattle.jm_modinfo.specs.Descriptors.{module_bodies, main_bodies}
use Rattle.jm_modinfo.specs.Faults.{body_fault, info_fault}
use Rattle.jm_modinfo.specs.Flags.{is_module}
use Rattle.jm_modinfo.specs.ModuleLayout.{module_layout}
use Rattle.jm_modinfo.specs.Views.{Answers}

module _ (c : ClassData) (f : InfoFault) where
  abbrev mains : List (List ℕ)
  mains = main_bodies c

  -- the fault of the main class, where the body has none
  main_rule : (body : List ℕ) → HasBody c body → (d : Descriptor) → body_info c.pool body ≡ Ok d → (found : List (List ℕ)) → mains ≡ found
      → fault_of (main_of c.pool found) ≡ Some f → HasInfoFault c f
  main_rule body has d is [] found e = cc
  main_rule body has d is (one ∷ []) found e = go (option_and_then (named_at c.pool Class) (number_in one)) refl e
    where
      go : (name : Option (List ℕ)) → option_and_then (named_at c.pool Class) (number_in one) ≡ name → fault_of (main_named name) ≡ Some f
          → HasInfoFault c f
      go (Some text) named e = cc
      go None named e = InMain body has (whole-good info.Short info.Rest (module_layout c.pool) body d is) (rw found named)
          (sym (same_some info.Main f e))
  main_rule body has d is (one ∷ other ∷ more) found e =
      InMain body has (whole-good info.Short info.Rest (module_layout c.pool) body d is) (rw found tt)
      (sym (same_some info.Main f e))

  bodies_rule : is_module c.access ≡ true → 53 ≤ c.major → (bodies : List (List ℕ)) → module_bodies c ≡ bodies
      → first_fault (fault_of (only_body bodies) ∷ body_fault c.pool bodies ∷ fault_of (main_of c.pool mains) ∷ []) ≡ Some f
      → HasInfoFault c f
  bodies_rule access major [] only e = InNone access major only (sym (same_some info.NoModule f e))
  bodies_rule access major (one ∷ other ∷ more) only e = InMany access major (rw only (omega arith)) (sym (same_some info.TwoModule f e))
  bodies_rule access major (body ∷ []) only e = go (body_info c.pool body) refl e
    where
      has : HasBody c body
      has = record { access = access; major = major; only = only }

      go : (result : Result Descriptor InfoFault) → body_info c.pool body ≡ result
          → first_fault (fault_of result ∷ fault_of (main_of c.pool mains) ∷ []) ≡ Some f → HasInfoFault c f
      go (Err found) is e = let same = same_some found f e in InBody body has (whole-fault info.Short info.Rest (module_layout c.pool) body f (is ∙ ap (λ g. Err g) same))
      go (Ok d) is e = main_rule body has d is mains refl (last (main_of c.pool mains) e)
        where
          last : (main : Result (Option (List ℕ)) InfoFault) → first_fault (None ∷ fault_of main ∷ []) ≡ Some f → fault_of main ≡ Some f
          last (Ok main) e = e
          last (Err g) e = e

  -- the computed fault is that of the rule
  pub info_fault-rule : info_fault c ≡ Some f → HasInfoFault c f
  info_fault-rule e = go (is_module c.access) refl (nat_lt c.major 53) refl e
    where
      go : (flagged : Bool) → is_module c.access ≡ flagged → (old : Bool) → nat_lt c.major 53 ≡ old
          → first_fault (fault_if (not flagged) info.NotModule ∷ fault_if old (info.OldVersion c.major) ∷ fault_of
          (only_body (module_bodies c)) ∷ body_fault c.pool (module_bodies c) ∷ fault_of (main_of c.pool mains) ∷ []) ≡ Some f
          → HasInfoFault c f
      go false access old major e = InAccess access (sym (same_some info.NotModule f e))
      go true access true major e = InMajor access (ltb-true c.major 53 major) (sym (same_some (info.OldVersion c.major) f e))
      go true access false major e = bodies_rule access (ltb-false c.major 53 major) (module_bodies c) refl e

  no_main : (found : List (List ℕ)) → IsNoMain c.pool found → main_of c.pool found ≡ Err info.Main
  no_main [] wrong = absurd wrong
  no_main (one ∷ []) wrong = ap main_named wrong
  no_main (one ∷ other ∷ more) wrong = refl

  many_bodies : (bodies : List (List ℕ)) → 1 < length bodies → (more : List (Option InfoFault))
      → first_fault (fault_of (only_body bodies) ∷ more) ≡ Some info.TwoModule
  many_bodies [] many more = absurd (omega (arith, many))
  many_bodies (one ∷ []) many more = absurd (omega (arith, many))
  many_bodies (one ∷ other ∷ rest) many more = refl

  -- the fault of the rule is computed
  pub rule-info_fault : HasInfoFault c f → info_fault c ≡ Some f
  rule-info_fault (InAccess access is) = rw (access, is) refl
  rule-info_fault (InMajor access major is) =
      let old = lt-ltb c.major 53 major in
      rw (access, old, is) refl
  rule-info_fault (InNone access major none is) =
      let new = le-ltb c.major 53 major in
      rw (access, new, none, is) refl
  rule-info_fault (InMany access major many is) =
      let new = le-ltb c.major 53 major in
      rw (access, new, is) (many_bodies (module_bodies c) many (body_fault c.pool (module_bodies c) ∷ fault_of (main_of c.pool mains) ∷ []))
  rule-info_fault (InBody body has fault) =
      let new = le-ltb c.major 53 has.major in
      let found = fault-whole info.Short info.Rest (module_layout c.pool) body f fault in
      rw (has.access, new, has.only, found) refl
  rule-info_fault (InMain body has none wrong is) = go (body_info c.pool body) refl
    where
      go : (result : Result Descriptor InfoFault) → body_info c.pool body ≡ result → info_fault c ≡ Some f
      go (Err g) found = absurd (no_fault (text_fields info.Short info.Rest (module_layout c.pool) body) g none (whole-fault info.Short info.Rest (module_layout c.pool) body g found))
      go (Ok d) found =
          let new = le-ltb c.major 53 has.major in
          let main = no_main mains wrong in
          rw (has.access, new, has.only, found, main, is) refl

-- What the code answered

pub described_first : (c : ClassData) (result : Result Descriptor (Or InfoFault)) (f : InfoFault) → Answers (λ d. d) (info_of c) result
    → result ≡ Err (Fault f) → HasInfoFault c f
described_first c result f is refused = info_fault-rule c f (described_fault c result f is refused)

pub described_allowed : (c : ClassData) (result : Result Descriptor (Or InfoFault)) → Answers (λ d. d) (info_of c) result
    → OnOk result ((f : InfoFault) → HasInfoFault c f → ⊥)
described_allowed c (Ok d) is = λ f has. let both = sym (described_sound c (Ok d) is) ∙ rule-info_fault c f has in cc
described_allowed c (Err error) is = tt
