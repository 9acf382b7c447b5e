-- The modules that a module path shows: folders of its directories that hold a `module-info.class`
-- (JEP 261, exploded modules; that a folder stands directly in a directory, and which module hides
-- another, is this project's rule). The number in front is the release of Java SE whose classes are
-- taken.
use Rattle.std.specs.Prelude.{ℕ, ◌&&◌, not, Bool, List, [], ◌∷◌, ◌++◌, map}
use Rattle.std.specs.Prelude.{Option, Some, None, unwrap_or, Result, Ok, Err, if◌then◌else◌}
use Rattle.std.specs.List.{after_first, before_first, filter_map, flat_map, list_any}
use Rattle.std.specs.Str.{bytes_eq}
use Rattle.jm_bytes.specs.Checks.{fault_if, first_fault}
use Rattle.jm_closure.specs.declared.candidate.Candidate.{Candidate}
use Rattle.jm_form.specs.ModuleFiles.{info_name}
use Rattle.jm_form.specs.Rising.{rising}
use Rattle.jm_form.specs.Trees.{class_packages}
use Rattle.jm_modinfo.specs.declared.descriptor.Descriptor.{Descriptor}
use Rattle.jm_modinfo.specs.declared.faults.DescriptorFault.{DescriptorFault}
use Rattle.jm_modinfo.specs.Descriptions.{info_for}
use Rattle.jm_names.specs.Names.{is_empty, is_slash}
use Rattle.jm_names.specs.UtfForms.{modified}
use Rattle.jm_outside.specs.Files.{Files, file, names_below}
use Rattle.jm_modpath.specs.declared.refusal.PathRefusal.{PathRefusal}
use Rattle.jm_modpath.specs.declared.refusal.PathRefusal.TheVariants as refusal
use Rattle.jm_modpath.specs.declared.visible.VisibleModule.{VisibleModule}

-- Paths

-- a name within a folder, as a path
abbrev pub inside : List ℕ → List ℕ → List ℕ
inside folder name = folder ++ 47 ∷ name

-- the path of the file that makes a folder a module
abbrev pub info_path : List ℕ → List ℕ
info_path folder = inside folder info_name

-- the bytes of the file at a path, no byte where it isn't there
abbrev pub bytes_at : Files → List ℕ → List ℕ
bytes_at files path = unwrap_or (file files path) []

-- The folders of a directory

-- the folder of a name that is a folder, a slash and `module-info.class`, or none
abbrev pub folder_with_info : List ℕ → Option (List ℕ)
folder_with_info name =
    if list_any is_slash name && not (is_empty (before_first is_slash name))
    && bytes_eq (after_first is_slash name) info_name
    then Some (before_first is_slash name)
    else None

-- the names of the folders that stand directly in a directory and hold a `module-info.class`,
-- rising
abbrev pub folders_in : Files → List ℕ → List (List ℕ)
folders_in files directory = rising (filter_map folder_with_info (names_below directory files))

-- What a folder shows

-- what the `module-info.class` of a folder says as a class of a release, or its first fault
abbrev pub folder_info : ℕ → Files → List ℕ → Result Descriptor DescriptorFault
folder_info release files folder = info_for release (bytes_at files (info_path folder))

-- the name of the resource that a file of a module is: `/`, the module, `/`, and the path in
-- Modified UTF-8
abbrev pub resource_name : List ℕ → List ℕ → List ℕ
resource_name «module» path = 47 ∷ «module» ++ 47 ∷ modified path

-- a module of a descriptor and of the bytes that say it, with its files by their paths within the
-- folder, and the packages that have a class among them
abbrev pub module_with : List ℕ → Descriptor → List ℕ → List (List ℕ) → VisibleModule
module_with folder descriptor info paths = record {
  folder = folder;
  info = info;
  files = paths;
  candidate = record {
    descriptor = descriptor;
    packages = class_packages (map (resource_name descriptor.name) paths);
  };
}

-- the module of a folder by what its file says, none where that is a fault
abbrev pub module_of : Files → List ℕ → Result Descriptor DescriptorFault → Option VisibleModule
module_of files folder (Err fault) = None
module_of files folder (Ok d) =
    Some (module_with folder d (bytes_at files (info_path folder)) (names_below folder files))

-- the module that a folder shows, if its file says one
abbrev pub module_in : ℕ → Files → List ℕ → Option VisibleModule
module_in release files folder = module_of files folder (folder_info release files folder)

-- the name of a module
abbrev pub name_of : VisibleModule → List ℕ
name_of m = m.candidate.descriptor.name

-- the modules that some folders of a directory show, as far as their files say one
abbrev pub modules_among : ℕ → Files → List ℕ → List (List ℕ) → List VisibleModule
modules_among release files directory folders =
    filter_map (λ folder. module_in release files (inside directory folder)) folders

-- the modules that all folders of a directory show
abbrev pub modules_in : ℕ → Files → List ℕ → List VisibleModule
modules_in release files directory =
    modules_among release files directory (folders_in files directory)

-- Refusals

-- one of the modules has the name
abbrev pub is_named : List VisibleModule → List ℕ → Bool
is_named ms name = list_any (λ m. bytes_eq name (name_of m)) ms

-- what can be wrong with a folder of a directory, after earlier ones with some modules: its file
-- says no module; an earlier one has the name
abbrev pub folder_checks : List ℕ → List VisibleModule → List ℕ
    → Result Descriptor DescriptorFault → List (Option PathRefusal)
folder_checks directory earlier folder (Err fault) =
    Some (refusal.BadInfo (info_path folder) fault) ∷ []
folder_checks directory earlier folder (Ok d) =
    fault_if (is_named earlier d.name) (refusal.TwoModules directory d.name) ∷ []

-- what can be wrong with folders of a directory in their order, with each after all that stand
-- before it, of which these are the earlier ones
abbrev pub checks_after : ℕ → Files → List ℕ → (earlier folders : List (List ℕ))
    → List (Option PathRefusal)
checks_after release files directory earlier [] = []
checks_after release files directory earlier (folder ∷ folders) =
    folder_checks directory (modules_among release files directory earlier)
    (inside directory folder) (folder_info release files (inside directory folder))
    ++ checks_after release files directory (earlier ++ folder ∷ []) folders

-- what can be wrong with all folders of a directory, in their order
abbrev pub directory_checks : ℕ → Files → List ℕ → List (Option PathRefusal)
directory_checks release files directory =
    checks_after release files directory [] (folders_in files directory)

-- the first refusal of a module path, directory by directory and folder by folder: no module, or a
-- name twice in a directory
abbrev pub path_refusal : ℕ → Files → List (List ℕ) → Option PathRefusal
path_refusal release files directories =
    first_fault (flat_map (directory_checks release files) directories)

-- Hiding

-- the modules whose name neither one of these nor an earlier one of them has
abbrev pub unhidden : List VisibleModule → List VisibleModule → List VisibleModule
unhidden earlier [] = []
unhidden earlier (m ∷ ms) =
    if is_named earlier (name_of m) then unhidden earlier ms
    else m ∷ unhidden (earlier ++ m ∷ []) ms

-- the modules of a module path without a refusal: one of an earlier directory hides those of its
-- name in later ones
abbrev pub visible : ℕ → Files → List (List ℕ) → List VisibleModule
visible release files directories = unhidden [] (flat_map (modules_in release files) directories)

-- the modules as a closure takes them: by their descriptors and class packages
abbrev pub candidates : List VisibleModule → List Candidate
candidates found = map (λ m. m.candidate) found
