use Rattle.std.proofs.Common.{◌∙◌, ap, map}
use Rattle.std.proofs.lemmas.List.{take_all}
use Rattle.jm_closure.specs.Modules.{name_of}
use Rattle.jm_modset.specs.Files.{entry_file}
use Rattle.jm_modset.proofs.FileLaws.{entries_taken}
use Rattle.jm_modset.proofs.files.entry_files.Goals as goal

pub returns : goal.returns
returns c =
    let all = take_all c.loop-file.file-index c.as_slice-file-items.result.now c.loop-file-test.false ∙ c.as_slice-file-items.ensures in
    entries_taken c.args.module.now c.args.entries.now c.loop-file.files
    (c.loop-file.invariant ∙ ap (map (entry_file (name_of c.args.module.now) c.args.entries.now.info)) all)
