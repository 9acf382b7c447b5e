use Rattle.std.proofs.Common.{◌≡◌, map, take}
use Rattle.jm_closure.specs.Modules.{name_of}
use Rattle.jm_modset.specs.Files.{entry_file}
use Rattle.jm_modset.proofs.files.entry_files.Given as goal

abbrev pub invariant-loop-file : goal.invariant-loop-file
invariant-loop-file l = l.files ≡ map (entry_file (name_of l.module) l.entries.info) (take l.file-index l.file-items)
