-- The files of the modules that are linked (this project's rule).
use Rattle.std.specs.Prelude.{ℕ, ◌≡◌, List, [], map, All, Contains, Option, Some, None, Result, Ok}
use Rattle.std.specs.Prelude.{Err, if◌then◌else◌}
use Rattle.std.specs.Str.{bytes_eq}
use Rattle.jm_closure.specs.declared.candidate.Candidate.{Candidate}
use Rattle.jm_closure.specs.Modules as closure
use Rattle.jm_filed.specs.Filed.{content_at}
use Rattle.jm_form.specs.Layout.{Written}
use Rattle.jm_form.specs.ModuleFiles.{info_name}
use Rattle.jm_modpath.specs.declared.visible.ModuleFolder.{ModuleFolder}
use Rattle.jm_modpath.specs.Modules.{bytes_at, inside, resource_name}
use Rattle.jm_names.specs.ByName.{Named}
use Rattle.jm_outside.specs.Files.{Files}
use Rattle.jm_relink.specs.declared.modules.ImageFile.{ImageFile}
use Rattle.jm_relink.specs.Files.{file_name}
use Rattle.jm_texts.specs.declared.refusal.Refusal.{Refusal}
use Rattle.jm_texts.specs.NameRefusals.{first_bad_name}
use Rattle.jm_modset.specs.declared.files.Content.{Content}
use Rattle.jm_modset.specs.declared.files.Content.TheVariants as content
use Rattle.jm_modset.specs.declared.files.LinkFile.{LinkFile}
use Rattle.jm_modset.specs.declared.set.ModuleFiles.{ModuleFiles}
use Rattle.jm_modset.specs.declared.set.ModuleFiles.TheVariants as of
use Rattle.jm_modset.specs.declared.set.ModuleSet.{ModuleSet}
use Rattle.jm_modset.specs.Set.{items, set_in, shown_by}
use Rattle.jm_modset.specs.Shown.{gathered}

-- the content of a file, on told files or in an image of these bytes
abbrev pub content_in : Files → List ℕ → Content → List ℕ
content_in files b (content.File path) = bytes_at files path
content_in files b (content.Part extent) = content_at b extent

-- a file as a resource
abbrev pub written_in : Files → List ℕ → LinkFile → Written
written_in files b f = (f.name, content_in files b f.content)

-- the path of a file on the shelf; none of one that is a part of an image
abbrev pub path_of : Content → List ℕ
path_of (content.File path) = path
path_of (content.Part extent) = []

-- a file's name, and its path on the shelf
abbrev pub pair_of : LinkFile → Named
pair_of f = (f.name, path_of f.content)

-- the names, in order
abbrev pub file_names : List LinkFile → List (List ℕ)
file_names files = map (λ f. f.name) files

-- the bytes of a file that were described, which are those of `module-info.class`
abbrev pub described_of : List ℕ → List ℕ → Option (List ℕ)
described_of info path = if bytes_eq path info_name then Some info else None

-- the file of a module on a shelf, by its path within the folder
abbrev pub folder_file : List ℕ → ModuleFolder → List ℕ → LinkFile
folder_file «module» folder path = record {
  name = resource_name «module» path;
  content = content.File (inside folder.path path);
  described = described_of folder.info path;
}

-- the file of a module of an image, beside the bytes that were described of the module
abbrev pub entry_file : List ℕ → List ℕ → ImageFile → LinkFile
entry_file «module» info file = record {
  name = file_name «module» file.path;
  content = content.Part file.content;
  described = described_of info file.path;
}

-- this is a file of the module
abbrev pub IsTakenOf : Candidate → ModuleFiles → LinkFile → Type 0
IsTakenOf c (of.Folder folder) f =
    (path : List ℕ) × Contains folder.files path
    × (f ≡ folder_file (closure.name_of c) folder path)
IsTakenOf c (of.Image entries) f =
    (file : ImageFile) × Contains entries.files file
    × (f ≡ entry_file (closure.name_of c) entries.info file)

-- this is a file of one of the modules
pub record IsTakenFrom (set : ModuleSet) (f : LinkFile) : Type 0 where
  pub candidate : Candidate
  pub files : ModuleFiles
  pub there : Contains (items set) (candidate, files)
  pub of : IsTakenOf candidate files f

-- these are all files of the module, and its resources on told files or in an image of any bytes
pub record AreTakenOf (c : Candidate) (of : ModuleFiles) (fs : List LinkFile) : Type 0 where
  pub shown : (files : Files) (b : List ℕ) → map (written_in files b) fs
      ≡ (shown_by files b c of).resources
  pub taken : All (IsTakenOf c of) fs

-- these are all files of the modules at these places, and their resources
pub record AreTakenAt (set : ModuleSet) (places : List ℕ) (fs : List LinkFile) : Type 0 where
  pub shown : (files : Files) (b : List ℕ) → map (written_in files b) fs
      ≡ gathered (set_in files b set) places
  pub taken : All (IsTakenFrom set) fs

-- by the answer: files that are these resources, on told files and in an image of these bytes, or
-- the refusal of the first name that may not stand in an image
abbrev pub AreFilesOf : List Written → Files → List ℕ → Result (List LinkFile) Refusal → Type 0
AreFilesOf rs files b (Ok fs) =
    (first_bad_name rs ≡ None) × (map (written_in files b) fs ≡ rs)
AreFilesOf rs files b (Err refusal) = first_bad_name rs ≡ Some refusal
