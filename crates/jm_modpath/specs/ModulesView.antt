-- The modules of a module path in two lists side by side (this project's rule).
use Rattle.std.specs.Prelude.{List, map}
use Rattle.std.specs.List.{zip}
use Rattle.jm_closure.specs.declared.candidate.Candidate.{Candidate}
use Rattle.jm_modpath.specs.declared.visible.ModuleFolder.{ModuleFolder}
use Rattle.jm_modpath.specs.declared.visible.VisibleModule.{VisibleModule}

-- the folder of a module, with the bytes of its descriptor and its files
abbrev pub folder_of : VisibleModule → ModuleFolder
folder_of m = record { path = m.folder; info = m.info; files = m.files }

-- a module of what it says and of its folder
abbrev pub module_with_folder : Candidate × ModuleFolder → VisibleModule
module_with_folder m =
    record { folder = m.1.path; info = m.1.info; files = m.1.files; candidate = m.0 }

-- the modules of what each says and of their folders
abbrev pub modules_with : List Candidate → List ModuleFolder → List VisibleModule
modules_with candidates folders = map module_with_folder (zip candidates folders)
