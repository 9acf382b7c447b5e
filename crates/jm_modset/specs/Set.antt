-- The modules that a link finds, as the code holds them: what they say, side by side with their
-- files (this project's rule).
use Rattle.std.specs.Prelude.{ℕ, ◌≡◌, ◌≢◌, ◌++◌, false, not, List, filter, length, map}
use Rattle.std.specs.Prelude.{All, AllPairs, Contains}
use Rattle.std.specs.List.{list_any, zip}
use Rattle.jm_closure.specs.declared.candidate.Candidate.{Candidate}
use Rattle.jm_closure.specs.Modules as closure
use Rattle.jm_closure.specs.Names.{NamesDiffer}
use Rattle.jm_modpath.specs.declared.visible.ModuleFolder.{ModuleFolder}
use Rattle.jm_modpath.specs.declared.visible.VisibleModule.{VisibleModule}
use Rattle.jm_modpath.specs.Finding.{HasTexts}
use Rattle.jm_modpath.specs.ModulesView.{module_with_folder}
use Rattle.jm_names.specs.Names.{is_slash}
use Rattle.jm_outside.specs.Files.{Files}
use Rattle.jm_relink.specs.declared.modules.ImageModules.{ImageModules}
use Rattle.jm_relink.specs.Files.{files_in}
use Rattle.jm_modset.specs.declared.set.ModuleFiles.{ModuleFiles}
use Rattle.jm_modset.specs.declared.set.ModuleFiles.TheVariants as of
use Rattle.jm_modset.specs.declared.set.ModuleSet.{ModuleSet}
use Rattle.jm_modset.specs.Found.{is_called}
use Rattle.jm_modset.specs.Shown.{Shown, of_entries, of_folder}

-- a module on told files, or in an image of these bytes
abbrev pub shown_by : Files → List ℕ → Candidate → ModuleFiles → Shown
shown_by files b c (of.Folder folder) = of_folder files (module_with_folder (c, folder))
shown_by files b c (of.Image entries) =
    of_entries (record { candidate = c; files = files_in b entries.files })

-- what each module says, with its files
abbrev pub items : ModuleSet → List (Candidate × ModuleFiles)
items set = zip set.candidates set.files

-- the modules on told files and in an image of these bytes
abbrev pub set_in : Files → List ℕ → ModuleSet → List Shown
set_in files b set = map (λ m. shown_by files b m.0 m.1) (items set)

-- the modules of an image of these bytes
abbrev pub image_in : List ℕ → ImageModules → List Shown
image_in b modules =
    map (λ m. of_entries (record { candidate = m.0; files = files_in b m.1 }))
    (zip modules.candidates modules.files)

-- a module's name has no `/`, and its files differ by their paths
abbrev pub IsItem : Candidate → ModuleFiles → Type 0
IsItem c (of.Folder folder) = HasTexts (module_with_folder (c, folder))
IsItem c (of.Image entries) =
    (list_any is_slash (closure.name_of c) ≡ false)
    × AllPairs (λ e f. e.path ≢ f.path) entries.files

-- the two lists are equally long, no two modules have one name, and each is an item
pub record AreSet (set : ModuleSet) : Type 0 where
  pub long : length set.candidates ≡ length set.files
  pub differ : NamesDiffer set.candidates
  pub each : All (λ m. IsItem m.0 m.1) (items set)

-- a module is one of an image or of a module path, with its files
abbrev pub IsFrom : ImageModules → List VisibleModule → Candidate → ModuleFiles → Type 0
IsFrom image path c (of.Folder folder) = Contains path (module_with_folder (c, folder))
IsFrom image path c (of.Image entries) =
    Contains (zip image.candidates (zip image.infos image.files))
    (c, (entries.info, entries.files))

-- The same, step by step: words of the proofs

-- the modules of an image with their files, beside what was described of each
abbrev pub image_set : ImageModules → ModuleSet
image_set image = record {
  candidates = image.candidates;
  files = map (λ m. of.Image (record { info = m.0; files = m.1 })) (zip image.infos image.files);
}

-- of modules of a module path with their folders those whose name no module of the image has
abbrev pub kept : List Candidate → List (Candidate × ModuleFolder) → List (Candidate × ModuleFolder)
kept image path = filter (λ m. not (is_called image (closure.name_of m.0))) path

-- modules, and after them those of a module path that the image doesn't hide
abbrev pub with_unhidden : List Candidate → ModuleSet → List (Candidate × ModuleFolder) → ModuleSet
with_unhidden image set path = record {
  candidates = set.candidates ++ map (λ m. m.0) (kept image path);
  files = set.files ++ map (λ m. of.Folder m.1) (kept image path);
}
