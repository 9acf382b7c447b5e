-- There is one list of modules of an image, or one first refusal.
use Rattle.std.proofs.Common.{◌≡◌, ℕ, true, cond, List, map, Contains, Option, Some, None, Result, Ok, Err, sym, ap, subst, ◌∙◌, rules}
use Rattle.std.proofs.lemmas.List.Elements.{All-contains}
use Rattle.std.proofs.lemmas.Slice.Eq.{bytes_eq-Decides}
use Rattle.jm_bytes.proofs.Choice.{same_ok, same_some}
use Rattle.jm_bytes.proofs.Members.{from_map}
use Rattle.jm_bytes.proofs.SameOrder.{same_order}
use Rattle.jm_form.specs.Trees.{class_packages}
use Rattle.jm_modinfo.specs.declared.descriptor.Descriptor.{Descriptor}
use Rattle.jm_modinfo.specs.declared.faults.DescriptorFault.{DescriptorFault}
use Rattle.jm_bytes.specs.ByteOrder.{is_before}
use Rattle.jm_modinfo.specs.Descriptions.{info_for}
use Rattle.jm_relink.specs.declared.fault.RelinkFault.{RelinkFault}
use Rattle.jm_relink.specs.declared.fault.RelinkFault.TheVariants as fault_of
use Rattle.jm_relink.specs.Files.{file_name, info_entry}
use Rattle.jm_names.specs.ByName.{Named}
use Rattle.jm_relink.specs.Modules.{AreFilesOf, HasInfo, IsRefusedIn, IsSeenIn, IsVisibleIn, ModulesOf, SeenModule, info_refusal, name_of}
use Rattle.jm_relink.proofs.ModuleLaws.{Differ, one_content, resources_differ}
use Rattle.jm_bytes.proofs.ByteOrderLaws.{one_way, stand}
use Rattle.jm_bytes.proofs.ByteOrderLaws.Stand.{stands_before, is_one, stands_behind}

files_once : (rs : List Named) (m : List ℕ) (es fs : List Named) → AreFilesOf rs m es → AreFilesOf rs m fs → es ≡ fs
files_once rs m es fs one other =
    same_order (λ (e f : Named). is_before e.0 f.0 ≡ true) (λ e f up down. one_way e.0 f.0 up down) es fs one.rising other.rising
    (λ e there. (other.each e.0 e.1).1 ((one.each e.0 e.1).0 there))
    (λ e there. (one.each e.0 e.1).1 ((other.each e.0 e.1).0 there))

info_once : (rs : List Named) (m k c d : List ℕ) → Differ rs → HasInfo rs m c → HasInfo rs k d → m ≡ k → c ≡ d
info_once rs m k c d differ one other same = one_content rs (info_entry m) (info_entry k) c d differ one.there other.there
    (ap info_entry same)

-- a module of a descriptor, packages and files
abbrev made : Descriptor → List (List ℕ) → List Named → SeenModule
made d packages files = record { candidate = record { descriptor = d; packages = packages }; files = files }

seen_once : (release : ℕ) (rs : List Named) (s t : SeenModule) → Differ rs → IsSeenIn release rs s → IsSeenIn release rs t
    → name_of s ≡ name_of t → s ≡ t
seen_once release rs s t differ one other name = ap (λ d. made d s.candidate.packages s.files) descriptors
    ∙ ap (λ ps. made t.candidate.descriptor ps s.files) packages ∙ ap (made t.candidate.descriptor t.candidate.packages) files
  where
    contents : one.content ≡ other.content
    contents = info_once rs (name_of s) (name_of t) one.content other.content differ one.info other.info name

    descriptors : s.candidate.descriptor ≡ t.candidate.descriptor
    descriptors = same_ok {E = DescriptorFault} s.candidate.descriptor t.candidate.descriptor
        (sym one.says ∙ ap (info_for release) contents ∙ other.says)

    files : s.files ≡ t.files
    files = files_once rs (name_of t) s.files t.files (subst (λ n. AreFilesOf rs n s.files) name one.files) other.files

    packages : s.candidate.packages ≡ t.candidate.packages
    packages =
        one.packages ∙ ap (λ n. class_packages (map (λ (f : Named). file_name n f.0) s.files)) name
        ∙ ap (λ fs. class_packages (map (λ (f : Named). file_name (name_of t) f.0) fs)) files ∙ sym other.packages

among : (release : ℕ) (rs : List Named) (seen others : List SeenModule) → Differ rs → IsVisibleIn release rs seen
    → IsVisibleIn release rs others → (s : SeenModule) → Contains seen s → Contains others s
among release rs seen others differ one other s there =
    let is = All-contains (IsSeenIn release rs) seen s one.each there in
    let from = from_map name_of others (name_of s) (other.all (name_of s) is.content is.info) in
    let too = All-contains (IsSeenIn release rs) others from.0 other.each from.1 in
    subst (Contains others) (seen_once release rs from.0 s differ too is from.2) from.1

visible_once : (release : ℕ) (rs : List Named) (seen others : List SeenModule) → Differ rs → IsVisibleIn release rs seen
    → IsVisibleIn release rs others → seen ≡ others
visible_once release rs seen others differ one other = search (rules, same_order, one_way, among)

some_none : {X : Type 0} (x : X) (o : Option X) → o ≡ Some x → o ≡ None → ⊥
some_none x (Some y) one other = cc
some_none x None one other = cc

refused_once : (release : ℕ) (rs : List Named) (e f : RelinkFault) → Differ rs → IsRefusedIn release rs e → IsRefusedIn release rs f
    → e ≡ f
refused_once release rs e f differ one other =
    elim (stand one.module other.module) [
      | stands_before h ↦ absurd (some_none e (info_refusal one.module (info_for release one.content)) one.refused
          (other.first one.module one.content one.info h))
      | is_one h ↦
          let contents = info_once rs one.module other.module one.content other.content differ one.info other.info h in
          same_some e f (sym one.refused ∙ ap (λ n. info_refusal n (info_for release one.content)) h
          ∙ ap (λ c. info_refusal other.module (info_for release c)) contents ∙ other.refused)
      | stands_behind h ↦ absurd (some_none f (info_refusal other.module (info_for release other.content)) other.refused
          (one.first other.module other.content other.info h))
    ]

visible_free : (release : ℕ) (rs : List Named) (seen : List SeenModule) (e : RelinkFault) → Differ rs → IsVisibleIn release rs seen
    → IsRefusedIn release rs e → ⊥
visible_free release rs seen e differ visible refused =
    let from = from_map name_of seen refused.module (visible.all refused.module refused.content refused.info) in
    let s = from.0 in
    let is = All-contains (IsSeenIn release rs) seen s visible.each from.1 in
    let contents = info_once rs (name_of s) refused.module is.content refused.content differ is.info refused.info from.2 in
    let free : info_refusal refused.module (Ok s.candidate.descriptor) ≡ None =
    ap (λ c. cond c None (Some (fault_of.Foreign (info_entry refused.module)))) ((bytes_eq-Decides (name_of s) refused.module).1 from.2)
    in
    some_none e (info_refusal refused.module (info_for release refused.content)) refused.refused
    (ap (info_refusal refused.module) (ap (info_for release) (sym contents) ∙ is.says) ∙ free)

-- an image has one list of modules, or one first refusal
pub modules_once : (release : ℕ) (b : List ℕ) (one other : Result (List SeenModule) RelinkFault) → ModulesOf release b one
    → ModulesOf release b other → one ≡ other
unfolding ModulesOf
modules_once release b (Ok seen) (Ok others) is too = search (rules, resources_differ, visible_once)
modules_once release b (Ok seen) (Err f) is too = search (rules, resources_differ, visible_free)
modules_once release b (Err e) (Ok others) is too = search (rules, resources_differ, visible_free)
modules_once release b (Err e) (Err f) is too = search (rules, resources_differ, refused_once)
