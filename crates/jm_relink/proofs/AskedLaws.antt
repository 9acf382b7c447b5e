-- What was seen of an image is what `gather` asks for: names that differ and have no slash, and
-- paths that differ.
use Rattle.std.proofs.Common.{◌≡◌, ◌≢◌, ◌<◌, ℕ, Bool, true, false, List, length, map, get_or, All, AllPairs, rules}
use Rattle.std.proofs.Common.{Some, slice_get, Result, Ok, Err, IfOk, refl, sym, ap, subst, ◌∙◌, arith}
use Rattle.std.proofs.lemmas.Bool.{ltb-false, ltb-true}
use Rattle.std.proofs.lemmas.List.{get_or-map, length-map}
use Rattle.std.proofs.lemmas.List.Elements.{All-contains, All-map}
use Rattle.std.proofs.lemmas.Option.{get_or_from_slice_get, slice_get_within}
use Rattle.std.specs.List.{list_any}
use Rattle.std.specs.Prelude.{nat_lt}
use Rattle.jm_bytes.specs.Results.{IfAnswered}
use Rattle.jm_bytes.specs.declared.faults.Or.{Or}
use Rattle.jm_bytes.proofs.Members.{all_from_contains, contains_map}
use Rattle.jm_bytes.proofs.Pairs.{pairs_map}
use Rattle.jm_bytes.proofs.SameOrder.{mapped_twice}
use Rattle.jm_closure.specs.declared.candidate.Candidate.{Candidate}
use Rattle.jm_closure.specs.Modules as closure
use Rattle.jm_closure.specs.Names.{NamesDiffer}
use Rattle.jm_names.specs.Names.{is_slash}
use Rattle.jm_names.specs.ByName.{RisesByName}
use Rattle.jm_bytes.specs.ByteOrder.{is_before}
use Rattle.jm_bytes.proofs.ByteOrderLaws.{before_other}
use Rattle.jm_relink.specs.declared.fault.RelinkFault.{RelinkFault}
use Rattle.jm_relink.specs.declared.modules.ImageFile.{ImageFile}
use Rattle.jm_relink.specs.declared.modules.ImageModules.{ImageModules}
use Rattle.jm_relink.specs.Files.{file_in, files_in, resources_of}
use Rattle.jm_relink.specs.Gathering.{AreModules, HasInfos, LieWithin, StandIn}
use Rattle.jm_relink.specs.Groups.{info_content}
use Rattle.jm_relink.specs.Modules.{FindsModules, HoldsModules, IsSeenIn, IsVisibleIn, ModulesOf, SeenModule, name_of}

-- what is seen of an image is what the rule says
pub visible_in : (release : ℕ) (b : List ℕ) (seen : List SeenModule) → ModulesOf release b (Ok seen)
    → IsVisibleIn release (resources_of b) seen
unfolding ModulesOf
visible_in release b seen shows = shows

-- Modules that rise by name

abbrev pub Before : Candidate → Candidate → Type 0
Before c d = is_before (closure.name_of c) (closure.name_of d) ≡ true

pub before_at : (cs : List Candidate) → AllPairs Before cs → (i j : ℕ) (c e : Candidate) → slice_get cs i ≡ Some c → slice_get cs j
    ≡ Some e → i < j → Before c e
before_at cs rises i j c e one other less = search (rules, get_or_from_slice_get, slice_get_within)

never : (c e : Candidate) (name : List ℕ) → closure.name_of c ≡ name → closure.name_of e ≡ name → Before c e → ⊥
never c e name one other before = before_other name (rw (one, other) at before)

rising_differ : (cs : List Candidate) → AllPairs Before cs → NamesDiffer cs
rising_differ cs rises i j name (c, one, is) (e, other, also) = go (nat_lt i j) refl (nat_lt j i) refl
  where
    go : (b : Bool) → nat_lt i j ≡ b → (d : Bool) → nat_lt j i ≡ d → i ≡ j
    go true less d more = absurd (never c e name is also (before_at cs rises i j c e one other (ltb-true i j less)))
    go false less true more = absurd (never e c name also is (before_at cs rises j i e c other one (ltb-true j i more)))
    go false less false more = let up = ltb-false i j less in let down = ltb-false j i more in omega (arith, up, down)

-- Two lists of modules that were seen

module _ (release : ℕ) (b : List ℕ) (modules : ImageModules) (seen : List SeenModule)
    (visible : IsVisibleIn release (resources_of b) seen) (holds : HoldsModules b modules seen) where
  abbrev found : List Candidate
  found = modules.candidates

  pub candidates_rise : AllPairs Before found
  candidates_rise = subst (AllPairs Before) (sym holds.candidates) (pairs_map Before (λ (s : SeenModule). s.candidate) seen visible.rising)

  pub image_names_differ : NamesDiffer found
  image_names_differ = rising_differ found candidates_rise

  whole_name : (s : SeenModule) → IsSeenIn release (resources_of b) s → list_any is_slash (name_of s) ≡ false
  whole_name s is = is.info.whole

  all_whole : All (λ c. list_any is_slash c.descriptor.name ≡ false) found
  all_whole =
      subst (All (λ (c : Candidate). list_any is_slash c.descriptor.name ≡ false)) (sym holds.candidates)
      (All-map (λ (c : Candidate). list_any is_slash c.descriptor.name ≡ false) (λ (s : SeenModule). s.candidate) seen
      (λ k d inside. whole_name _ (visible.each k d inside)))

  all_rise : All RisesByName (map (files_in b) modules.files)
  all_rise =
      subst (All RisesByName) (sym holds.files)
      (All-map RisesByName (λ (s : SeenModule). s.files) seen (λ k d inside. (visible.each k d inside).files.rising))

  paths_apart : (fs : List ImageFile) → RisesByName (files_in b fs) → AllPairs (λ (e f : ImageFile). e.path ≢ f.path) fs
  paths_apart fs rises i j d less inside same =
      let up = rises i j (file_in b d) less (rw (length-map fs (file_in b)) inside) in
      let one = get_or-map (file_in b) fs i d (file_in b d) (omega (arith, less, inside)) in
      let other = get_or-map (file_in b) fs j d (file_in b d) inside in
      let before = rw (one, other) at up in
      before_other (get_or fs j d).path (rw same at before)

  all_apart : All (λ (fs : List ImageFile). AllPairs (λ (e f : ImageFile). e.path ≢ f.path) fs) modules.files
  all_apart = all_from_contains (λ (fs : List ImageFile). AllPairs (λ (e f : ImageFile). e.path ≢ f.path) fs) modules.files
      (λ fs there. paths_apart fs (All-contains RisesByName (map (files_in b) modules.files) (files_in b fs) all_rise
      (contains_map (files_in b) modules.files fs there)))

  as_long : length modules.candidates ≡ length modules.files
  as_long = search (rules, length-map)

  as_many : length modules.candidates ≡ length modules.infos
  as_many = search (rules, length-map)

  -- the descriptors are those of the image
  pub image_infos : HasInfos b modules
  image_infos =
      sym (mapped_twice info_content (files_in b) modules.files) ∙ ap (map info_content) holds.files
      ∙ mapped_twice info_content (λ (s : SeenModule). s.files) seen ∙ sym holds.infos

  pub image_modules : AreModules modules
  image_modules = record { long = as_long; infos = as_many; differ = image_names_differ; whole = all_whole; apart = all_apart }

pub found_are : (release : ℕ) (b : List ℕ) (answer : Result ImageModules (Or RelinkFault))
    → IfAnswered (FindsModules release b) answer → IfOk answer AreModules
found_are release b (Ok found) (seen, shows, holds) = image_modules release b found seen (visible_in release b seen shows) holds
found_are release b (Err e) finds = tt

pub found_infos : (release : ℕ) (b : List ℕ) (answer : Result ImageModules (Or RelinkFault))
    → IfAnswered (FindsModules release b) answer → IfOk answer (HasInfos b)
found_infos release b (Ok found) (seen, shows, holds) = image_infos release b found seen (visible_in release b seen shows) holds
found_infos release b (Err e) finds = tt

-- and its files stand in it
pub found_stand : (release : ℕ) (b : List ℕ) (answer : Result ImageModules (Or RelinkFault))
    → IfAnswered (FindsModules release b) answer → IfOk answer (LieWithin (length b)) → IfOk answer (StandIn b)
found_stand release b (Ok found) finds inside = record { infos = found_infos release b (Ok found) finds; within = inside }
found_stand release b (Err e) finds inside = tt
