-- The modules that the resources of some modules show, where the descriptor of each stands among
-- them: these modules, with the same descriptors, and only packages that they had.
use Rattle.std.proofs.Common.{◌≡◌, ◌≢◌, ◌≤◌, ◌↔◌, inl, inr, ℕ, true, false, cond, List, map, All, AllPairs, rules}
use Rattle.std.proofs.Common.{Contains, Option, Some, None, refl, sym, ap, subst, ◌∙◌}
use Rattle.std.proofs.lemmas.List.Elements.{All-map}
use Rattle.std.proofs.lemmas.Slice.Eq.{bytes_eq-Decides}
use Rattle.std.specs.List.{filter_map, flat_map, list_any}
use Rattle.std.specs.Prelude.{IsTrue}
use Rattle.std.specs.Str.{bytes_eq}
use Rattle.jm_bytes.proofs.Choice.{chosen, same_some}
use Rattle.jm_bytes.proofs.Members.{all_from_contains, contains_filter_map, contains_map, from_filter_map, from_map}
use Rattle.jm_bytes.proofs.Pairs.{pairs_filter_map, pairs_map, pairs_weaker}
use Rattle.jm_bytes.proofs.SameOrder.{contains_flat_map, from_flat_map, same_order}
use Rattle.jm_closure.specs.declared.candidate.Candidate.{Candidate}
use Rattle.jm_closure.specs.Modules as closure
use Rattle.jm_form.specs.Layout.{Written}
use Rattle.jm_form.specs.Trees.{class_packages, module_of, path_of}
use Rattle.jm_bytes.specs.ByteOrder.{is_before}
use Rattle.jm_form.specs.ModuleFiles.{info_name, named_package}
use Rattle.jm_form.proofs.ClassPackageLaws.{class_packages_are}
use Rattle.jm_form.proofs.RisingLaws.{from_rising}
use Rattle.jm_names.specs.Names.{is_slash}
use Rattle.jm_nodes.proofs.SoundLaws.{module_again, path_again}
use Rattle.jm_relink.specs.Files.{file_name, info_entry}
use Rattle.jm_names.specs.ByName.{Named, RisesByName}
use Rattle.jm_relink.specs.Gathering.{resource_of}
use Rattle.jm_relink.specs.Modules.{IsSeenIn, IsVisibleIn, SeenModule, name_of}
use Rattle.jm_relink.proofs.AskedLaws.{Before}
use Rattle.jm_relink.proofs.ListLaws.{one_of}
use Rattle.jm_relink.proofs.NameLaws.{names_tell}
use Rattle.jm_bytes.proofs.ByteOrderLaws.{before_apart}
use Rattle.jm_modset.specs.Shown.{Shown, of_entries}
use Rattle.jm_link.proofs.FileOrder.{AreNamed, IsFirst, IsFirstOrOne, Rises, entries_named, entries_rise, never_both, pairs_shown}
use Rattle.jm_link.proofs.KeptLaws.{AreKept}
use Rattle.jm_link.proofs.SaidLaws.{Says, says_info, says_later}

-- a resource of a module, which has the package of the resource; that which makes the module says
-- its descriptor, as a class of a release
pub record IsOf (release : ℕ) (c : Candidate) (r : Written) : Type 0 where
  pub path : List ℕ
  pub name : r.0 ≡ file_name (closure.name_of c) path
  pub has_package : (shared : List ℕ) → named_package r.0 ≡ Some shared → Contains c.packages shared
  pub says : path ≡ info_name → Says release r.1 c.descriptor

-- resources of some modules, by module and then by path
pub record AreOf (release : ℕ) (cs : List Candidate) (rs : List Written) : Type 0 where
  pub rising : AllPairs Before cs
  pub whole : (c : Candidate) → Contains cs c → list_any is_slash (closure.name_of c) ≡ false
  pub each : (r : Written) → Contains rs r → (c : Candidate) × Contains cs c × IsOf release c r
  pub order : AllPairs (λ (e f : Written). IsFirstOrOne e.0 f.0) rs

-- what plug-ins leave of them
pub kept_of : (release : ℕ) (cs : List Candidate) (old new : List Written) → AreKept release IsFirstOrOne old new
    → AreOf release cs old → AreOf release cs new
kept_of release cs old new kept are = record {
  rising = are.rising;
  whole = are.whole;
  each = λ r there.
      let one = kept.each r there in
      let (c, among, of) = are.each one.was one.there in (
        c,
        among,
        record {
          path = of.path;
          name = sym one.name ∙ of.name;
          has_package = λ shared is. of.has_package shared (ap named_package one.name ∙ is);
          says = λ is.
              let placed = ap path_of of.name ∙ path_again (closure.name_of c) of.path (are.whole c among) in
              one.says (placed ∙ is) c.descriptor (of.says is);
        },
      );
  order = kept.order are.order;
}

module _ (release : ℕ) (cs : List Candidate) (rs : List Written) (are : AreOf release cs rs)
    (differ : AllPairs (λ (e f : Written). e.0 ≢ f.0) rs) where
  strict : AllPairs (λ (e f : Written). IsFirst e.0 f.0) rs
  strict i j d before inside = are.order i j d before inside (differ i j d before inside)

  -- a resource with the name of a module's file is that module's
  own : (c : Candidate) → Contains cs c → (r : Written) → Contains rs r → (path : List ℕ) → r.0 ≡ file_name (closure.name_of c) path
      → (of : IsOf release c r) × (of.path ≡ path)
  own c there r among path is =
      let (d, too, of) = are.each r among in
      let names = names_tell (closure.name_of d) (closure.name_of c) of.path path (are.whole d too) (are.whole c there) (sym of.name ∙ is) in
      let same = one_of closure.name_of cs d c (pairs_weaker Before (λ a b. closure.name_of a ≢ closure.name_of b)
      (λ a b before. before_apart (closure.name_of a) (closure.name_of b) before) cs are.rising) too there names.0 in
      subst (λ e. (o : IsOf release e r) × (o.path ≡ path)) same (of, names.1)

  -- The files of a module

  abbrev file_in : List ℕ → Written → Option Named
  file_in m r = cond (bytes_eq (module_of r.0) m) (Some (path_of r.0, r.1)) None

  abbrev pub files_of : Candidate → List Named
  files_of c = filter_map (file_in (closure.name_of c)) rs

  file_is : (m : List ℕ) (r : Written) (f : Named) → file_in m r ≡ Some f → (module_of r.0 ≡ m) × ((path_of r.0, r.1) ≡ f)
  file_is m r f is = search (rules, bytes_eq-Decides, chosen, same_some)

  -- its name has its module and its path
  parts : (r : Written) → Contains rs r → r.0 ≡ file_name (module_of r.0) (path_of r.0)
  parts r there =
      let (c, among, of) = are.each r there in
      let whole = are.whole c among in
      subst (λ n. n ≡ file_name (module_of n) (path_of n)) (sym of.name)
      (rw (module_again (closure.name_of c) of.path whole, path_again (closure.name_of c) of.path whole) refl)

  files_from : (c : Candidate) (path content : List ℕ) → Contains (files_of c) (path, content)
      → Contains rs (file_name (closure.name_of c) path, content)
  files_from c path content there =
      let from = from_filter_map (file_in (closure.name_of c)) rs (path, content) there in
      let r = from.0 in
      let is = file_is (closure.name_of c) r (path, content) from.2 in
      subst (Contains rs) (ap (λ n. (n, r.1)) (parts r from.1 ∙ ap (λ m. file_name m (path_of r.0)) is.0)
      ∙ ap (λ (f : Named). (file_name (closure.name_of c) f.0, f.1)) is.1) from.1

  files_there : (c : Candidate) → Contains cs c → (path content : List ℕ)
      → Contains rs (file_name (closure.name_of c) path, content) → Contains (files_of c) (path, content)
  files_there c among path content there =
      let whole = are.whole c among in
      contains_filter_map (file_in (closure.name_of c)) rs (file_name (closure.name_of c) path, content) (path, content) there
      (rw (
        module_again (closure.name_of c) path whole,
        path_again (closure.name_of c) path whole,
        (bytes_eq-Decides (closure.name_of c) (closure.name_of c)).1 refl,
      ) refl)

  files_rise : (c : Candidate) → RisesByName (files_of c)
  files_rise c =
      pairs_filter_map (λ (e f : Written). IsFirst e.0 f.0) (λ (e f : Named). IsTrue (is_before e.0 f.0)) (file_in (closure.name_of c))
      (λ r q first e f one other.
      let is = file_is (closure.name_of c) r e one in
      let also = file_is (closure.name_of c) q f other in
      elim first [
        | inl lesser ↦ absurd (before_apart (module_of r.0) (module_of q.0) lesser (is.0 ∙ sym also.0))
        | inr same ↦ subst (λ (n : List ℕ). is_before e.0 n ≡ true) (ap (λ (x : Named). x.0) also.1)
            (subst (λ (n : List ℕ). is_before n (path_of q.0) ≡ true) (ap (λ (x : Named). x.0) is.1) same.1)
      ])
      rs strict

  -- What is seen

  abbrev pub see : Candidate → SeenModule
  see c = record {
    candidate = record { descriptor = c.descriptor; packages = class_packages (map (λ f. file_name (closure.name_of c) f.0) (files_of c)) };
    files = files_of c;
  }

  abbrev pub seen : List SeenModule
  seen = map see cs

  -- the same as a link finds it
  abbrev see_shown : Candidate → Shown
  see_shown c = of_entries (see c)

  abbrev pub shown : List Shown
  shown = map see_shown cs

  -- its packages are packages of the module
  pub only_packages : (c : Candidate) → Contains cs c → (shared : List ℕ) → Contains (see c).candidate.packages shared
      → Contains c.packages shared
  only_packages c among shared there =
      let names = map (λ (f : Named). file_name (closure.name_of c) f.0) (files_of c) in
      let back = from_rising (filter_map named_package names) shared (subst (λ ps. Contains ps shared)
      (sym (class_packages_are names)) there) in
      let from = from_filter_map named_package names shared back in
      let file = from_map (λ (f : Named). file_name (closure.name_of c) f.0) (files_of c) from.0 from.1 in
      let r = files_from c file.0.0 file.0.1 file.1 in
      let of = own c among (file_name (closure.name_of c) file.0.0, file.0.1) r file.0.0 refl in
      of.0.has_package shared (ap named_package file.2 ∙ from.2)

  -- Their resources, module by module

  abbrev AreFirst : Written → Written → Type 0
  AreFirst e f = IsFirst e.0 f.0

  joined_strict : AllPairs AreFirst (flat_map (λ m. m.resources) shown)
  joined_strict =
      pairs_shown AreFirst (λ e f first. first) shown
      (each (λ m. AreNamed m) (λ c among. entries_named (see c) (are.whole c among)))
      (each (λ m. AllPairs AreFirst m.resources) (λ c among. entries_rise (see c) (are.whole c among) (files_rise c)))
      (pairs_map Rises see_shown cs are.rising)
    where
      each : (P : Shown → Type 0) → ((c : Candidate) → Contains cs c → P (see_shown c)) → All P shown
      each P holds = All-map P see_shown cs (all_from_contains (λ c. P (see_shown c)) cs holds)

  -- they are the resources, in their order
  pub resources_again : flat_map (λ m. m.resources) shown ≡ rs
  resources_again =
      same_order AreFirst (λ e f one other. never_both e.0 f.0 one other) (flat_map (λ m. m.resources) shown) rs joined_strict strict
      (λ r there.
      let (m, among, has) = from_flat_map (λ m. m.resources) shown r there in
      let (c, too, is) = from_map see_shown cs m among in
      let (f, mine, same) = from_map (resource_of (closure.name_of c)) (files_of c) r (subst (λ k. Contains k.resources r) (sym is) has) in
      subst (Contains rs) same (files_from c f.0 f.1 mine))
      (λ r there.
      let (c, among, of) = are.each r there in
      let same : (file_name (closure.name_of c) of.path, r.1) ≡ r = ap (λ n. (n, r.1)) (sym of.name) in
      let file = files_there c among of.path r.1 (subst (Contains rs) (sym same) there) in
      subst (Contains (flat_map (λ m. m.resources) shown)) same
      (contains_flat_map (λ m. m.resources) shown (see_shown c) (file_name (closure.name_of c) of.path, r.1) (contains_map see_shown cs c
      among) (contains_map (resource_of (closure.name_of c)) (files_of c) (of.path, r.1) file)))

  -- In an image, for this release or a later one

  module _ (later : ℕ) (rises : release ≤ later) (infos : (c : Candidate) → Contains cs c
      → (content : List ℕ) × Contains rs (info_entry (closure.name_of c), content))
      (held : List Named) (same : (r : Written) → Contains held r ↔ Contains rs r) where
    seen_is : (c : Candidate) → Contains cs c → IsSeenIn later held (see c)
    seen_is c among =
        let info = infos c among in
        let of = own c among (info_entry (closure.name_of c), info.0) info.1 info_name refl in
        let says = says_later release later rises info.0 c.descriptor (of.0.says of.1) in
        record {
          content = info.0;
          info = record { whole = are.whole c among; there = (same (info_entry (closure.name_of c), info.0)).1 info.1 };
          says = says_info later info.0 c.descriptor says;
          packages = refl;
          files = record {
            rising = files_rise c;
            each = λ path content. (
              λ there. (same (file_name (closure.name_of c) path, content)).1 (files_from c path content there),
              λ there. files_there c among path content ((same (file_name (closure.name_of c) path, content)).0 there),
            );
          };
        }

    pub seen_visible : IsVisibleIn later held seen
    seen_visible = record {
      rising = pairs_map (λ (s t : SeenModule). is_before (name_of s) (name_of t) ≡ true) see cs are.rising;
      each = all_from_contains (IsSeenIn later held) seen (λ s there.
          let mine = from_map see cs s there in
          subst (IsSeenIn later held) mine.2 (seen_is mine.0 mine.1));
      all = λ m content info.
          let (c, among, of) = are.each (info_entry m, content) ((same (info_entry m, content)).0 info.there) in
          let names = names_tell m (closure.name_of c) info_name of.path info.whole (are.whole c among) of.name in
          subst (Contains (map name_of seen)) (sym names.0) (contains_map name_of seen (see c) (contains_map see cs c among));
    }
