-- What the steps come to that look for the modules of a module path (this project's rule).
use Rattle.std.specs.Prelude.{ℕ, ◌≡◌, ◌≢◌, true, List, [], ◌∷◌, ◌++◌, filter_map}
use Rattle.std.specs.Prelude.{if◌then◌else◌}
use Rattle.std.specs.Prelude.{All, AllPairs, IsUtf8, Some, None, Result, Ok}
use Rattle.std.specs.Prelude.{Err}
use Rattle.jm_bytes.specs.Checks.{first_fault, unless_fault}
use Rattle.jm_bytes.specs.Results.{followed}
use Rattle.jm_closure.specs.Names.{NamesDiffer}
use Rattle.jm_form.specs.Rising.{rising}
use Rattle.jm_modinfo.specs.declared.descriptor.Descriptor.{Descriptor}
use Rattle.jm_modinfo.specs.declared.faults.DescriptorFault.{DescriptorFault}
use Rattle.jm_modinfo.specs.Constants.{is_legal}
use Rattle.jm_modinfo.specs.Descriptions.{info_for, info_in}
use Rattle.jm_outside.specs.declared.shelf.ShelfError.{ShelfError}
use Rattle.jm_outside.specs.declared.shelf.ShelfError.TheVariants as outside
use Rattle.jm_outside.specs.Files.{Files, after_front, names_below}
use Rattle.jm_modpath.specs.declared.directory.Described.{Described}
use Rattle.jm_modpath.specs.declared.refusal.PathStop.{PathStop}
use Rattle.jm_modpath.specs.declared.refusal.PathStop.TheVariants as stop
use Rattle.jm_modpath.specs.declared.refusal.PathRefusal.{PathRefusal}
use Rattle.jm_modpath.specs.declared.refusal.PathRefusal.TheVariants as refusal
use Rattle.jm_modpath.specs.declared.visible.VisibleModule.{VisibleModule}
use Rattle.jm_modpath.specs.Modules.{bytes_at, candidates}
use Rattle.jm_modpath.specs.Modules.{directory_checks, folder_with_info, info_path}
use Rattle.jm_modpath.specs.Modules.{inside, is_named}
use Rattle.jm_modpath.specs.Modules.{module_with, modules_in, name_of, path_refusal, unhidden}
use Rattle.jm_modpath.specs.Modules.{visible}

-- why a call of a shelf ends the work
abbrev pub stop_of : ShelfError → PathStop
stop_of outside.Failed = stop.Outside
stop_of outside.Memory = stop.Memory

-- a step came to this value or refusal, unless the outside failed or no memory was found; a file
-- that isn't there shows that something else holds
abbrev pub Comes : {A : Type 0} → Type 0 → Result A PathRefusal → Result A PathStop → Type 0
Comes absent due (Ok value) = due ≡ Ok value
Comes absent due (Err (stop.Refused r)) = due ≡ Err r
Comes absent due (Err (stop.NotThere path)) = absent
Comes absent due (Err stop.Outside) = Unit {0}
Comes absent due (Err stop.Memory) = Unit {0}

-- a fact after the end of a step by a refusal, or by a file that isn't there
abbrev pub AfterStop : Type 0 → PathStop → Type 0
AfterStop Fact (stop.Refused r) = Fact
AfterStop Fact (stop.NotThere path) = Fact
AfterStop Fact stop.Outside = Unit {0}
AfterStop Fact stop.Memory = Unit {0}

-- a fact after a step, unless the outside failed or no memory was found
abbrev pub AfterStep : {A : Type 0} → Type 0 → Result A PathStop → Type 0
AfterStep Fact (Ok value) = Fact
AfterStep Fact (Err stop) = AfterStop Fact stop

-- the path of a file that isn't there, if a step ended so, is such a one
abbrev pub LacksBy : (List ℕ → Type 0) → PathStop → Type 0
LacksBy Such (stop.Refused r) = Unit {0}
LacksBy Such (stop.NotThere path) = Such path
LacksBy Such stop.Outside = Unit {0}
LacksBy Such stop.Memory = Unit {0}

-- the same by the answer of a step
abbrev pub Lacks : {A : Type 0} → (List ℕ → Type 0) → Result A PathStop → Type 0
Lacks Such (Ok value) = Unit {0}
Lacks Such (Err stop) = LacksBy Such stop

-- Names

-- the folders with a descriptor among the names below a directory
abbrev pub folders_among : List (List ℕ) → List (List ℕ)
folders_among names = rising (filter_map folder_with_info names)

-- the names within a folder of a directory
abbrev pub names_within : List ℕ → List (List ℕ) → List (List ℕ)
names_within folder names = filter_map (after_front (folder ++ 47 ∷ [])) names

-- Folders

-- the descriptor with the bytes that say it, or the refusal of the file at this path
abbrev pub refused_at : List ℕ → List ℕ → Result Descriptor DescriptorFault
    → Result Described PathRefusal
refused_at path bytes (Err fault) = Err (refusal.BadInfo path fault)
refused_at path bytes (Ok d) = Ok (record { descriptor = d; bytes = bytes })

-- what the file of a folder says by its bytes, as a class of a release, or its refusal
abbrev pub info_due : ℕ → List ℕ → List ℕ → Result Described PathRefusal
info_due release folder bytes = refused_at (info_path folder) bytes (info_for release bytes)

-- the module of a folder of a directory with this descriptor and these files, where earlier folders
-- showed some modules
abbrev pub shown_due : List ℕ → List VisibleModule → List ℕ → Described → List (List ℕ)
    → Result VisibleModule PathRefusal
shown_due directory earlier folder info paths =
    if is_named earlier info.descriptor.name
    then Err (refusal.TwoModules directory info.descriptor.name)
    else Ok (module_with folder info.descriptor info.bytes paths)

-- the module that a folder of a directory shows, where earlier folders showed some, or its refusal
abbrev pub folder_due : ℕ → Files → List ℕ → List VisibleModule → List ℕ
    → Result VisibleModule PathRefusal
folder_due release files directory earlier folder =
    followed
    (info_due release (inside directory folder)
    (bytes_at files (info_path (inside directory folder))))
    (λ info. shown_due directory earlier (inside directory folder) info
    (names_below (inside directory folder) files))

-- the earlier modules and that of the folder
abbrev pub added_due : ℕ → Files → List ℕ → List VisibleModule → List ℕ
    → Result (List VisibleModule) PathRefusal
added_due release files directory earlier folder =
    followed (folder_due release files directory earlier folder) (λ m. Ok (earlier ++ m ∷ []))

-- the modules of a directory, once earlier folders showed some and these are left
abbrev pub folders_due : ℕ → Files → List ℕ → List VisibleModule → List (List ℕ)
    → Result (List VisibleModule) PathRefusal
folders_due release files directory earlier [] = Ok earlier
folders_due release files directory earlier (folder ∷ folders) =
    followed (added_due release files directory earlier folder)
    (λ ms. folders_due release files directory ms folders)

-- Directories

-- the modules of a directory, or its first refusal
abbrev pub directory_due : ℕ → Files → List ℕ → Result (List VisibleModule) PathRefusal
directory_due release files directory =
    unless_fault (first_fault (directory_checks release files directory))
    (modules_in release files directory)

-- the modules found, with those of them that no earlier one hides
abbrev pub with_unhidden : List VisibleModule → List VisibleModule → List VisibleModule
with_unhidden found ms = found ++ unhidden found ms

-- the modules found, and those of a directory that they don't hide
abbrev pub shown_more : ℕ → Files → List VisibleModule → List ℕ
    → Result (List VisibleModule) PathRefusal
shown_more release files found directory =
    followed (directory_due release files directory) (λ ms. Ok (with_unhidden found ms))

-- the modules of a path, once earlier directories showed some and these are left
abbrev pub directories_due : ℕ → Files → List VisibleModule → List (List ℕ)
    → Result (List VisibleModule) PathRefusal
directories_due release files found [] = Ok found
directories_due release files found (directory ∷ directories) =
    followed (shown_more release files found directory)
    (λ ms. directories_due release files ms directories)

-- the rule: the modules that a path shows, or its first refusal; a told shelf has what it lists
abbrev pub ShowsModules : ℕ → Files → List (List ℕ) → Result (List VisibleModule) PathStop
    → Type 0
ShowsModules release files directories (Ok found) =
    (path_refusal release files directories ≡ None) × (found ≡ visible release files directories)
ShowsModules release files directories (Err (stop.Refused r)) =
    path_refusal release files directories ≡ Some r
ShowsModules release files directories (Err (stop.NotThere path)) = ⊥
ShowsModules release files directories (Err stop.Outside) = Unit {0}
ShowsModules release files directories (Err stop.Memory) = Unit {0}

-- Modules found

-- the path of a module's folder and those of its files are text, the files differ, its name is
-- legal, and its descriptor is what its bytes say
pub record HasTexts (m : VisibleModule) : Type 0 where
  pub folder : IsUtf8 m.folder
  pub files : All IsUtf8 m.files
  pub differ : AllPairs (λ path other. path ≢ other) m.files
  pub legal : is_legal (name_of m) ≡ true
  pub said : info_in m.info ≡ Ok m.candidate.descriptor

-- no two modules have one name
abbrev pub Differing : List VisibleModule → Type 0
Differing ms = AllPairs (λ m k. name_of m ≢ name_of k) ms

-- modules as a module path shows them: each has its texts, and no two of them have one name
pub record AreVisible (ms : List VisibleModule) : Type 0 where
  pub texts : All HasTexts ms
  pub differ : NamesDiffer (candidates ms)
