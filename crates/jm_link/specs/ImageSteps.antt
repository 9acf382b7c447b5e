-- What looking for the modules of an image in a file comes to. A shelf may tell nothing, so each
-- fact is one of all files of the index that have what was read (this project's rule).
use Rattle.std.specs.Prelude.{ℕ, ◌≡◌, ◌≤◌, ◌+◌, true, List, All, Option, Result, Ok, Err}
use Rattle.jm_filed.specs.Parts.{AreRead, HasContents}
use Rattle.jm_form.specs.declared.container.Header.{Header}
use Rattle.jm_form.specs.Head.{IsFileOf}
use Rattle.jm_names.specs.ByName.{Named}
use Rattle.jm_outside.specs.Files.{Files}
use Rattle.jm_reader.specs.Listing.{IsIndex}
use Rattle.jm_relink.specs.declared.fault.RelinkFault.{RelinkFault}
use Rattle.jm_relink.specs.declared.modules.ImageModules.{ImageModules}
use Rattle.jm_relink.specs.Gathering.{AreModules, StandIn}
use Rattle.jm_relink.specs.Modules.{FindsModules}
use Rattle.jm_texts.specs.declared.refusal.Refusal.{Refusal}
use Rattle.jm_valid.specs.Opened.{Front}
use Rattle.jm_modset.specs.Found.{image_refusal}
use Rattle.jm_modset.specs.Infos.{infos_of, is_info, sizes}
use Rattle.jm_link.specs.declared.linking.LinkStop.{LinkStop}
use Rattle.jm_link.specs.Steps.{StepGives}

-- an image has these modules, and their files stand in it
pub record HasModules (release : ℕ) (b : List ℕ) (modules : ImageModules) : Type 0 where
  pub finds : FindsModules release b (Ok modules)
  pub are : AreModules modules
  pub stand : StandIn b modules

-- the modules of an image are refused so
abbrev pub IsUnseen : ℕ → List ℕ → Refusal → Type 0
IsUnseen release b given =
    (fault : RelinkFault) × FindsModules release b (Err fault) × (given ≡ image_refusal fault)

-- by the answer: an image has these modules, or they are refused so
abbrev pub ShowsIn : ℕ → List ℕ → Result ImageModules LinkStop → Type 0
ShowsIn release b = StepGives (HasModules release b) (IsUnseen release b) ⊥ (Unit {0})

-- what the search for the modules of an image in a file gives: some descriptors were read, each
-- file of the index with these has the modules, and no more was handed out than the descriptors
pub record ReadsModules (index : Front) (told : Option Files) (path : List ℕ) (release : ℕ)
    (answer : Result ImageModules LinkStop) (handed new_handed : ℕ) : Type 0 where
  pub images : (h : Header) × IsIndex index.bytes index.length h
  pub read : List Named
  pub are : AreRead index told path read
  pub infos : All (λ r. is_info r ≡ true) read
  pub shows : (b : List ℕ) → IsFileOf index.bytes index.length b → HasContents b read
      → ShowsIn release b answer
  pub takes : (b : List ℕ) → IsFileOf index.bytes index.length b
      → new_handed ≤ handed + sizes (infos_of b)
