-- The modules of an image: those whose `module-info.class` stands in it (JEP 261; that the name of
-- the entry tells the module's, and which refusal comes first, is this project's rule). The number
-- in front is the release of Java SE whose classes are taken.
use Rattle.std.specs.Prelude.{ℕ, ◌≡◌, ◌↔◌, false, List, map, All, AllPairs, Contains, IsTrue}
use Rattle.std.specs.Prelude.{Option, Some, None, Result, Ok, Err, IfOk, if◌then◌else◌}
use Rattle.std.specs.List.{list_any}
use Rattle.std.specs.Str.{bytes_eq}
use Rattle.jm_bytes.specs.Metered.{Metered}
use Rattle.jm_bytes.specs.Results.{IfAnswered}
use Rattle.jm_bytes.specs.declared.faults.Or.{Or}
use Rattle.jm_closure.specs.declared.candidate.Candidate.{Candidate}
use Rattle.jm_form.specs.Trees.{class_packages}
use Rattle.jm_modinfo.specs.Descriptions.{info_for}
use Rattle.jm_modinfo.specs.declared.descriptor.Descriptor.{Descriptor}
use Rattle.jm_modinfo.specs.declared.faults.DescriptorFault.{DescriptorFault}
use Rattle.jm_bytes.specs.ByteOrder.{is_before}
use Rattle.jm_names.specs.Names.{is_slash}
use Rattle.jm_reader.specs.Walk.{IsLater}
use Rattle.jm_relink.specs.declared.fault.RelinkFault.{RelinkFault}
use Rattle.jm_relink.specs.declared.fault.RelinkFault.TheVariants as fault_of
use Rattle.jm_relink.specs.declared.modules.ImageModules.{ImageModules}
use Rattle.jm_relink.specs.Files.{file_name, files_in, info_entry, resources_of}
use Rattle.jm_relink.specs.Gathering.{AreModules, StandIn}
use Rattle.jm_relink.specs.Groups.{info_content}
use Rattle.jm_names.specs.ByName.{Named, RisesByName}

-- a module, with its files by their paths and their contents
pub record SeenModule : Type 0 where
  pub candidate : Candidate
  pub files : List Named

-- the name of a module
abbrev pub name_of : SeenModule → List ℕ
name_of s = s.candidate.descriptor.name

-- Modules, by the resources of an image

-- this is a module of the resources, by an entry of this content
pub record HasInfo (rs : List Named) («module» content : List ℕ) : Type 0 where
  pub whole : list_any is_slash «module» ≡ false
  pub there : Contains rs (info_entry «module», content)

-- the files of a module: the resources of names `/module/path`, rising by path
pub record AreFilesOf (rs : List Named) («module» : List ℕ) (files : List Named) : Type 0 where
  pub rising : RisesByName files
  pub each : (path content : List ℕ)
      → Contains files (path, content) ↔ Contains rs (file_name «module» path, content)

-- what is seen of a module: what its entry says, which has its name, its class packages, and its
-- files
pub record IsSeenIn (release : ℕ) (rs : List Named) (s : SeenModule) : Type 0 where
  pub content : List ℕ
  pub info : HasInfo rs (name_of s) content
  pub says : info_for release content ≡ Ok s.candidate.descriptor
  pub packages : s.candidate.packages
      ≡ class_packages (map (λ f. file_name (name_of s) f.0) s.files)
  pub files : AreFilesOf rs (name_of s) s.files

-- the rule: the modules of the resources, rising by name
pub record IsVisibleIn (release : ℕ) (rs : List Named) (seen : List SeenModule) : Type 0 where
  pub rising : AllPairs (λ s t. IsTrue (is_before (name_of s) (name_of t))) seen
  pub each : All (IsSeenIn release rs) seen
  pub all : («module» content : List ℕ) → HasInfo rs «module» content
      → Contains (map name_of seen) «module»

-- Refusals

-- what is refused of a module by what its entry says: no descriptor, or one of another module
abbrev pub info_refusal : List ℕ → Result Descriptor DescriptorFault → Option RelinkFault
info_refusal «module» (Err fault) = Some (fault_of.BadInfo (info_entry «module») fault)
info_refusal «module» (Ok d) =
    if bytes_eq d.name «module» then None else Some (fault_of.Foreign (info_entry «module»))

-- the rule: a module has this refusal, and none with a lesser name has one
pub record IsRefusedIn (release : ℕ) (rs : List Named) (refusal : RelinkFault) : Type 0 where
  pub «module» : List ℕ
  pub content : List ℕ
  pub info : HasInfo rs «module» content
  pub refused : info_refusal «module» (info_for release content) ≡ Some refusal
  pub first : (lesser other : List ℕ) → HasInfo rs lesser other
      → IsTrue (is_before lesser «module») → info_refusal lesser (info_for release other) ≡ None

-- the modules of an image, or their first refusal
unfoldable pub ModulesOf : ℕ → List ℕ → Result (List SeenModule) RelinkFault → Type 0
ModulesOf release b (Ok seen) = IsVisibleIn release (resources_of b) seen
ModulesOf release b (Err refusal) = IsRefusedIn release (resources_of b) refusal

-- What is handed out

-- the code's three lists hold these modules, with their files in an image of these bytes
pub record HoldsModules (b : List ℕ) (found : ImageModules) (seen : List SeenModule) : Type 0 where
  pub candidates : found.candidates ≡ map (λ s. s.candidate) seen
  pub infos : map Some found.infos ≡ map (λ s. info_content s.files) seen
  pub files : map (files_in b) found.files ≡ map (λ s. s.files) seen

-- what looking for an image's modules comes to: these, or their first refusal
abbrev pub FindsModules : ℕ → List ℕ → Result ImageModules RelinkFault → Type 0
FindsModules release b (Ok found) =
    (seen : List SeenModule) × ModulesOf release b (Ok seen) × HoldsModules b found seen
FindsModules release b (Err fault) = ModulesOf release b (Err fault)

-- what the modules of an image come to: these or their first refusal, and modules as
-- `chosen_files` takes them
pub record FindsIn (release : ℕ) (b : List ℕ) (result : Result ImageModules (Or RelinkFault))
    : Type 0 where
  pub modules : IfAnswered (FindsModules release b) result
  pub are : IfOk result AreModules

-- what the search for the modules of an image gives: these or their first refusal, modules as
-- `gather` takes them, and a meter of the same bytes whose count didn't fall
pub record FindsFor (release : ℕ) (b : List ℕ) (old new : Metered)
    (result : Result ImageModules (Or RelinkFault)) : Type 0 where
  pub modules : IfAnswered (FindsModules release b) result
  pub are : IfOk result AreModules
  pub stand : IfOk result (StandIn b)
  pub reads : IsLater old new
