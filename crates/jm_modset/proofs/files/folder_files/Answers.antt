use Rattle.std.proofs.Common.{◌∙◌, ap, map}
use Rattle.std.proofs.lemmas.List.{take_all}
use Rattle.jm_closure.specs.Modules.{name_of}
use Rattle.jm_modset.specs.Files.{folder_file}
use Rattle.jm_modset.proofs.FileLaws.{folder_taken}
use Rattle.jm_modset.proofs.files.folder_files.Goals as goal

pub returns : goal.returns
returns c =
    let all = take_all c.loop-path.path-index c.as_slice-path-items.result.now c.loop-path-test.false ∙ c.as_slice-path-items.ensures in
    folder_taken c.args.module.now c.args.folder.now c.loop-path.files c.sorted_by_name.result
    (c.loop-path.invariant ∙ ap (map (folder_file (name_of c.args.module.now) c.args.folder.now)) all)
    c.sorted_by_name.ensures.moved c.requires c.sorted_by_name.ensures.sorted
