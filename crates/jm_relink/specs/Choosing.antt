-- The files of chosen modules, by their names and where their contents stand (this project's rule).
use Rattle.std.specs.Prelude.{◌≡◌, ◌≢◌, ℕ, List, ◌++◌, All, map, Option, Some, None}
use Rattle.std.specs.Prelude.{Result, Ok, Err}
use Rattle.jm_filed.specs.Filed.{content_at}
use Rattle.jm_form.specs.ModuleFiles.{info_name}
use Rattle.jm_form.specs.Trees.{path_of}
use Rattle.jm_names.specs.ByName.{Named}
use Rattle.jm_relink.specs.declared.choosing.ChosenFile.{ChosenFile}
use Rattle.jm_relink.specs.declared.fault.GatherFault.{GatherFault}
use Rattle.jm_relink.specs.declared.modules.ImageFile.{ImageFile}
use Rattle.jm_relink.specs.Gathering.{first_bad_name, name_refusal}

-- a chosen file as a resource of an image of these bytes
abbrev pub chosen_in : List ℕ → ChosenFile → Named
chosen_in b f = (f.name, content_at b f.content)

-- the text is the content of a resource that is a module's descriptor; of another one there is none
abbrev pub IsDescription : Named → Option (List ℕ) → Type 0
IsDescription r (Some text) = (text ≡ r.1) × (path_of r.0 ≡ info_name)
IsDescription r None = path_of r.0 ≢ info_name

-- a chosen file has its content exactly where it is a module's descriptor
abbrev pub IsDescribedIn : List ℕ → ChosenFile → Type 0
IsDescribedIn b f = IsDescription (chosen_in b f) f.described

-- the text is the content of a file, if the file is `module-info.class`
abbrev pub WasRead : List ℕ → List ℕ → ImageFile → Type 0
WasRead b info f = f.path ≡ info_name → info ≡ content_at b f.content

-- by the answer: the file is this resource, whose name may stand in an image, or the fault of the
-- name
abbrev pub IsChosen : List ℕ → Named → Result ChosenFile GatherFault → Type 0
IsChosen b r (Ok f) = (name_refusal r ≡ None) × (chosen_in b f ≡ r) × IsDescribedIn b f
IsChosen b r (Err fault) = name_refusal r ≡ Some fault

-- the resources, whose names may stand in an image, stand after the files that were there
pub record ArePut (b : List ℕ) (rs : List Named) (old new : List ChosenFile) : Type 0 where
  pub sound : first_bad_name rs ≡ None
  pub put : map (chosen_in b) new ≡ map (chosen_in b) old ++ rs
  pub described : All (IsDescribedIn b) old → All (IsDescribedIn b) new

-- by the answer: the resources were put, or the fault of the first name that may not stand in an
-- image
abbrev pub Chooses : List ℕ → List Named → (old new : List ChosenFile) → Result Unit GatherFault
    → Type 0
Chooses b rs old new (Ok done) = ArePut b rs old new
Chooses b rs old new (Err fault) = first_bad_name rs ≡ Some fault

-- exactly these resources, of which the descriptors have their contents, or the fault of the first
-- name that may not stand in an image
abbrev pub ChoosesAll : List ℕ → List Named → Result (List ChosenFile) GatherFault → Type 0
ChoosesAll b rs (Ok files) =
    (first_bad_name rs ≡ None) × (map (chosen_in b) files ≡ rs) × All (IsDescribedIn b) files
ChoosesAll b rs (Err fault) = first_bad_name rs ≡ Some fault
