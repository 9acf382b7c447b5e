use Rattle.std.proofs.Common.{◌≡◌, map, take}
use Rattle.jm_closure.specs.Modules.{name_of}
use Rattle.jm_modset.specs.Files.{folder_file}
use Rattle.jm_modset.proofs.files.folder_files.Given as goal

abbrev pub invariant-loop-path : goal.invariant-loop-path
invariant-loop-path l = l.files ≡ map (folder_file (name_of l.module) l.folder) (take l.path-index l.path-items)
