-- The descriptor that `info_of` computes is the one that `InfoOf` rules, and its fault is the first
-- one of the checks.
use Rattle.std.proofs.Common.{◌≡◌, ◌≢◌, ℕ, ◌^◌, ◌<◌, ◌≤◌, Bool, true, false, cond, List, [], ◌∷◌, Option, Some}
use Rattle.std.proofs.Common.{None, Result, Ok, Err, refl, sym, ap, ◌∙◌, subst}
use Rattle.std.proofs.lemmas.Bool.{ne_eqb, le-ltb}
use Rattle.std.proofs.lemmas.Nat.{from_be_bytes-to_be_bytes_2}
use Rattle.std.specs.Prelude.{not, bit_and, nat_lt, option_and_then, if◌then◌else◌, IfOk, OnOk}
use Rattle.jm_bytes.proofs.Choice.{same_ok, same_some}
use Rattle.jm_bytes.specs.Checks.{fault_if, first_fault}
use Rattle.jm_class.specs.Classes.{SlotData, ClassData, u2}
use Rattle.jm_class.specs.Layouts.{fault_of, Says}
use Rattle.jm_class.proofs.LayoutLaws.{says-whole, whole-gives}
use Rattle.jm_modinfo.specs.ComputedInfo.{body_info, only_body, main_named, main_of, with_body, with_info, info_of}
use Rattle.jm_modinfo.specs.Constants.{number_in, named_at, is_legal}
use Rattle.jm_modinfo.specs.declared.constants.Kind.TheVariants.{Class, Module}
use Rattle.jm_modinfo.specs.declared.descriptor.Descriptor.{Descriptor}
use Rattle.jm_modinfo.specs.declared.faults.InfoFault.{InfoFault}
use Rattle.jm_modinfo.specs.declared.faults.InfoFault.TheVariants.{NotModule, OldVersion, Short, Rest}
use Rattle.jm_bytes.specs.declared.faults.Or.{Or}
use Rattle.jm_bytes.specs.declared.faults.Or.TheVariants.{Fault, Memory}
use Rattle.jm_modinfo.specs.Descriptors.{IsModuleBody, IsMain, module_bodies, main_bodies, InfoOf}
use Rattle.jm_modinfo.specs.Faults.{body_fault, info_fault}
use Rattle.jm_modinfo.specs.Flags.{is_module}
use Rattle.jm_modinfo.specs.ModuleLayout as layout
use Rattle.jm_modinfo.specs.ModuleLayout.{allowed}
use Rattle.jm_modinfo.specs.Views.{Answers}

-- The first fault

checks-of : (pool : List SlotData) (flagged old : Bool) (major : ℕ) (bodies : List (List ℕ)) (main : Result (Option (List ℕ))
    InfoFault) → first_fault (fault_if (not flagged) NotModule ∷ fault_if old (OldVersion major) ∷ fault_of (only_body bodies)
    ∷ body_fault pool bodies ∷ fault_of main ∷ []) ≡ fault_of (if not flagged then Err NotModule else if old then Err
    (OldVersion major) else with_body pool (only_body bodies) main)
checks-of pool false old major bodies main = refl
checks-of pool true true major bodies main = refl
checks-of pool true false major [] main = refl
checks-of pool true false major (body ∷ other ∷ more) main = refl
checks-of pool true false major (body ∷ []) main = go (body_info pool body) refl main
  where
    go : (info : Result Descriptor InfoFault) → body_info pool body ≡ info → (main : Result (Option (List ℕ)) InfoFault)
        → first_fault (fault_of (body_info pool body) ∷ fault_of main ∷ []) ≡ fault_of (with_body pool (Ok body) main)
    go (Err fault) is main = rw is refl
    go (Ok d) is (Err fault) = rw is refl
    go (Ok d) is (Ok main) = rw is refl

-- the fault of the computed form is the first of the checks
pub info_fault-of : (c : ClassData) → info_fault c ≡ fault_of (info_of c)
info_fault-of c = checks-of c.pool (is_module c.access) (nat_lt c.major 53) c.major (module_bodies c) (main_of c.pool (main_bodies c))

-- From the parts to the rule

found_legal : (name : List ℕ) (text : Option (List ℕ)) → allowed Module text ≡ Some name → is_legal name ≡ true
found_legal name None is = cc
found_legal name (Some text) is = go (is_legal text) refl is
  where
    go : (b : Bool) → is_legal text ≡ b → cond b (Some text) None ≡ Some name → is_legal name ≡ true
    go true holds is = subst (λ t. is_legal t ≡ true) (same_some text name is) holds
    go false fails is = cc

-- a body says no main class, and a legal name
pub body_gives : (pool : List SlotData) (body : List ℕ) (d : Descriptor) → body_info pool body ≡ Ok d
    → (d.main ≡ None) × (is_legal d.name ≡ true)
body_gives pool body d is =
    whole-gives Short Rest (λ d. (d.main ≡ None) × (is_legal d.name ≡ true)) (layout.module_layout pool) body d
    (λ n name found flags at version version_found needs_count needs exports_count exports opens_count opens uses_count uses
    provides_count provides. (refl, found_legal name (named_at pool Module n) found)) is

pub without_main : (pool : List SlotData) (body : List ℕ) (d : Descriptor) → body_info pool body ≡ Ok d
    → Says (layout.module_layout pool) d body → IsModuleBody pool d body
without_main pool body d is says =
    subst (λ m. Says (layout.module_layout pool) (record d { main = m }) body) (body_gives pool body d is).0 says

pub flagged : (access : ℕ) → bit_and access 0x8000 ≢ 0 → is_module access ≡ true
flagged access some = ap not (ne_eqb (bit_and access 0x8000) 0 some)

one_body : (bodies : List (List ℕ)) (body : List ℕ) → only_body bodies ≡ Ok body → bodies ≡ body ∷ []
one_body [] body e = cc
one_body (one ∷ []) body e = let same = same_ok {E = InfoFault} one body e in ap (λ (x : List ℕ). x ∷ []) same
one_body (one ∷ other ∷ more) body e = cc

pub parts-info : (c : ClassData) (d : Descriptor) (main : Option (List ℕ)) (body : List ℕ) → bit_and c.access 0x8000 ≢ 0
    → 53 ≤ c.major → only_body (module_bodies c) ≡ Ok body → IsModuleBody c.pool d body → IsMain c.pool (main_bodies c) main
    → InfoOf c (record d { main = main })
parts-info c d main body access major only says is = record {
  access = flagged c.access access;
  major = major;
  body = body;
  only = one_body (module_bodies c) body only;
  says = says;
  main = is;
}

-- the descriptor of a class with one body is that of the body, with the main class
pub info_with : (c : ClassData) (body : List ℕ) → bit_and c.access 0x8000 ≢ 0 → 53 ≤ c.major → only_body (module_bodies c) ≡ Ok body
    → info_of c ≡ with_info (body_info c.pool body) (main_of c.pool (main_bodies c))
info_with c body access major only = rw (flagged c.access access, le-ltb c.major 53 major, only) refl

-- From the rule to the computed form

number_back : (n : ℕ) → n < 2 ^ 16 → number_in (u2 n) ≡ Some n
number_back n below = ap (λ (m : ℕ). Some m) (from_be_bytes-to_be_bytes_2 n below)

said-main : (pool : List SlotData) (bodies : List (List ℕ)) (main : Option (List ℕ)) → IsMain pool bodies main → main_of pool bodies
    ≡ Ok main
said-main pool [] main is = ap (λ (m : Option (List ℕ)). Ok m) (sym is)
said-main pool (body ∷ []) main (text, is, (index, found, (below, bytes))) =
    let number : number_in body ≡ Some index = ap number_in bytes ∙ number_back index below in
    let named : option_and_then (named_at pool Class) (number_in body) ≡ Some text = ap (option_and_then (named_at pool Class))
    number ∙ found in
    ap main_named named ∙ ap (λ (m : Option (List ℕ)). Ok m) (sym is)
said-main pool (body ∷ other ∷ more) main is = absurd is

with_parts : (c : ClassData) (d : Descriptor) (body : List ℕ) → is_module c.access ≡ true → nat_lt c.major 53 ≡ false
    → module_bodies c ≡ body ∷ [] → body_info c.pool body ≡ Ok (record d { main = None }) → main_of c.pool (main_bodies c)
    ≡ Ok d.main → info_of c ≡ Ok d
with_parts c d body access major only info main = rw (access, major, only, info, main) refl

-- what the rule says is computed
pub info-computed : (c : ClassData) (d : Descriptor) → InfoOf c d → info_of c ≡ Ok d
info-computed c d info =
    with_parts c d info.body info.access (le-ltb c.major 53 info.major) info.only
    (says-whole Short Rest (layout.module_layout c.pool) info.body (record d { main = None }) info.says)
    (said-main c.pool (main_bodies c) d.main info.main)

-- What the code answered

pub described_only : (c : ClassData) (result : Result Descriptor (Or InfoFault)) → Answers (λ d. d) (info_of c) result
    → IfOk result (λ d. (other : Descriptor) → InfoOf c other → other ≡ d)
described_only c (Ok d) is = λ other info. same_ok {E = InfoFault} other d (sym (info-computed c other info) ∙ is)
described_only c (Err error) is = tt

pub described_sound : (c : ClassData) (result : Result Descriptor (Or InfoFault)) → Answers (λ d. d) (info_of c) result
    → OnOk result (info_fault c ≡ None)
described_sound c (Ok d) is = info_fault-of c ∙ ap fault_of is
described_sound c (Err error) is = tt

pub described_fault : (c : ClassData) (result : Result Descriptor (Or InfoFault)) (fault : InfoFault)
    → Answers (λ d. d) (info_of c) result → result ≡ Err (Fault fault) → info_fault c ≡ Some fault
described_fault c (Ok d) fault is refused = cc
described_fault c (Err Memory) fault is refused = cc
described_fault c (Err (Fault found)) fault is refused =
    let same : found ≡ fault = cc in info_fault-of c ∙ ap fault_of is ∙ ap (λ f. Some f) same

-- a class with a descriptor has no fault
pub info-no_fault : (c : ClassData) (d : Descriptor) → InfoOf c d → info_fault c ≡ None
info-no_fault c d info = info_fault-of c ∙ ap fault_of (info-computed c d info)

pub described_none : (c : ClassData) (result : Result Descriptor (Or InfoFault)) (fault : InfoFault) (d : Descriptor)
    → Answers (λ d. d) (info_of c) result → result ≡ Err (Fault fault) → InfoOf c d → ⊥
described_none c result fault d is refused info =
    let both = sym (info-no_fault c d info) ∙ described_fault c result fault is refused in
    cc
