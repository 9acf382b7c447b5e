-- What the steps of a link of modules come to. The modules of an image were seen before, by those
-- of its contents that were read, so each fact is one of all images that have them (this project's
-- rule).
use Rattle.std.specs.Prelude.{ℕ, ◌≡◌, ◌≤◌, ◌+◌, ◌⊎◌, Bool, false, List, [], ◌∷◌, length, All}
use Rattle.std.specs.Prelude.{Option, Some, None, option_map, Result, Ok, Err}
use Rattle.jm_closure.specs.declared.candidate.Candidate.{Candidate}
use Rattle.jm_filed.specs.Filed.{IsAt}
use Rattle.jm_filed.specs.Parts.{AgreeByName, HasContents, HasSizes}
use Rattle.jm_modpath.specs.declared.visible.VisibleModule.{VisibleModule}
use Rattle.jm_modpath.specs.Finding.{HasTexts}
use Rattle.jm_modpath.specs.Listed.{IsBelow}
use Rattle.jm_modpath.specs.Modules.{path_refusal, visible}
use Rattle.jm_modset.specs.declared.set.ModuleSet.{ModuleSet}
use Rattle.jm_modset.specs.Files.{AreFilesOf}
use Rattle.jm_modset.specs.Found.{Finds, Found, Sources, path_refusal_as, roots_among}
use Rattle.jm_modset.specs.Infos.{is_info}
use Rattle.jm_modset.specs.Parts.{TellsNothing}
use Rattle.jm_modset.specs.Set.{IsFrom, items, set_in}
use Rattle.jm_modset.specs.Shown.{gathered}
use Rattle.jm_names.specs.ByName.{Named}
use Rattle.jm_outside.specs.Files.{Files}
use Rattle.jm_outside.specs.Outcome.{Shows}
use Rattle.jm_outside.specs.Shelves.{ShelfSeen}
use Rattle.jm_relink.specs.declared.modules.ImageModules.{ImageModules}
use Rattle.jm_texts.specs.declared.refusal.Refusal.{Refusal}
use Rattle.jm_texts.specs.NameRefusals.{first_bad_name}
use Rattle.jm_link.specs.declared.linking.LinkStop.{LinkStop}
use Rattle.jm_link.specs.declared.linking.LinkStop.TheVariants as stop
use Rattle.jm_link.specs.declared.linking.Summary.{Summary}
use Rattle.jm_link.specs.declared.finding.FoundModules.{FoundModules}
use Rattle.jm_link.specs.declared.modules.LinkedFiles.{LinkedFiles}
use Rattle.jm_link.specs.Closing.{ClosesAmong}
use Rattle.jm_link.specs.ImageSteps.{HasModules}
use Rattle.jm_link.specs.Linked.{Request}
use Rattle.jm_link.specs.Links.{ComesTo, LinksBy, path_files}
use Rattle.jm_link.specs.Steps.{StepGives}
use Rattle.jm_link.specs.Taken.{LinkTakes, image_infos_size}

-- The image

-- these are the modules of an image, if there is one
abbrev pub HasImage : ℕ → Option (List ℕ) → ImageModules → Type 0
HasImage release None modules = modules ≡ record { candidates = []; infos = []; files = [] }
HasImage release (Some b) modules = HasModules release b modules

-- the bytes of an image, if there is one
abbrev pub bytes_of : Option (List ℕ) → List ℕ
bytes_of None = []
bytes_of (Some b) = b

-- an image, if there is one, has these contents
abbrev pub HoldsRead : Option (List ℕ) → List Named → Type 0
HoldsRead None read = Unit {0}
HoldsRead (Some b) read = HasContents b read

-- The modules that are found

-- by the answer: a module path shows these modules, or is refused so
abbrev pub PathGives : ℕ → Files → List (List ℕ) → Result (List VisibleModule) LinkStop → Type 0
PathGives release files directories =
    StepGives (λ found. (path_refusal release files directories ≡ None)
    × (found ≡ visible release files directories))
    (λ given. option_map path_refusal_as (path_refusal release files directories) ≡ Some given)
    ⊥ (Unit {0})

-- an image, if there is one, and a module path as sources
abbrev pub sources : Option (List ℕ) → List (List ℕ) → Files → Sources
sources image directories files =
    record { image = image; files = files; directories = directories }

-- these are the modules and the roots that a link finds
pub record AreFound (source : Sources) (asked : Request) (all : FoundModules) : Type 0 where
  pub found : Found
  pub finds : Finds asked.release source (Ok found)
  pub modules : found.modules ≡ set_in source.files (bytes_of source.image) all.set
  pub roots : all.roots ≡ roots_among found.named asked.roots

-- by the answer: these are the modules and the roots that a link finds, or it is refused so
abbrev pub FindsSet : Sources → Request → Result FoundModules LinkStop → Type 0
FindsSet source asked =
    StepGives (AreFound source asked) (λ given. Finds asked.release source (Err given))
    ⊥ (Unit {0})

-- the modules of a set are some of an image and of a module path, with their texts, below its
-- directories and, where files are told, visible
pub record ComeFrom (told : Option Files) (release : ℕ) (directories : List (List ℕ))
    (image : ImageModules) (set : ModuleSet) : Type 0 where
  pub path : List VisibleModule
  pub texts : All HasTexts path
  pub below : All (λ m. IsBelow directories m.folder) path
  pub shown : Shows (path_files directories told) (λ files.
      path ≡ visible release files directories)
  pub from : All (λ m. IsFrom image path m.0 m.1) (items set)

-- those modules that the word for all stands for, of an image and of a module path
abbrev pub named_of : List (List ℕ) → List Candidate → List Candidate → List Candidate
named_of [] image path = image
named_of (directory ∷ directories) image path = path

-- The files that are linked

-- on told files and in an image of these bytes, these are the files of the modules at the places of
-- a closure
pub record AreLinked (set : ModuleSet) (roots : List (List ℕ)) (bind : Bool) (files : Files)
    (b : List ℕ) (linked : LinkedFiles) : Type 0 where
  pub places : List ℕ
  pub closes : ClosesAmong set.candidates roots bind (Ok places)
  pub modules : linked.modules ≡ length places
  pub are : AreFilesOf (gathered (set_in files b set) places) files b (Ok linked.files)

-- the closure, or the first bad name of its files, is refused so
abbrev pub IsUnlinked : ModuleSet → List (List ℕ) → Bool → Files → List ℕ → Refusal → Type 0
IsUnlinked set roots bind files b given =
    ClosesAmong set.candidates roots bind (Err (stop.Refused given))
    ⊎ ((places : List ℕ) × ClosesAmong set.candidates roots bind (Ok places)
    × (first_bad_name (gathered (set_in files b set) places) ≡ Some given))

-- by the answer: these files are linked, or they are refused so
abbrev pub LinksSet : ModuleSet → List (List ℕ) → Bool → Files → List ℕ
    → Result LinkedFiles LinkStop → Type 0
LinksSet set roots bind files b =
    StepGives (AreLinked set roots bind files b) (IsUnlinked set roots bind files b) ⊥ ⊥

-- A whole link

-- what a link of the modules of an image, and of a module path, did: some contents were read of the
-- image's file, one of each name, none of them a descriptor; each image that has the modules has
-- contents of these sizes, and where files are told, these; for each that has what was read it did
-- what is due, and took no more than that
pub record ReadLinks (path : List ℕ) (directories : List (List ℕ)) (asked : Request)
    (modules : ImageModules) (output : List ℕ) (answer : Result Summary LinkStop)
    (old new : ShelfSeen) (handed new_handed : ℕ) : Type 0 where
  pub read : List Named
  pub agree : AgreeByName read
  pub plain : All (λ r. is_info r ≡ false) read
  pub sized : (b : List ℕ) → HasModules asked.release b modules → HasSizes b read
  pub contents : (b : List ℕ) → HasModules asked.release b modules → IsAt old.told path b
      → Shows old.told (λ files. HasContents b read)
  pub links : (image : Option (List ℕ)) → HasImage asked.release image modules
      → HoldsRead image read
      → LinksBy (ComesTo old.told image directories asked) (TellsNothing old.told) output answer
      old new
  pub takes : (image : Option (List ℕ)) → HasImage asked.release image modules
      → HoldsRead image read → (first : ℕ) → handed ≤ first + image_infos_size image
      → LinkTakes old.told image directories asked first new_handed
