use Rattle.std.proofs.Common.{rules}
use Rattle.std.proofs.lemmas.List.{take-append-drop}
use Rattle.jm_modpath.proofs.FolderLaws.{rising_drop, within_part}
use Rattle.jm_modpath.proofs.folders.names_of_folder.Goals as goal

pub place_of-requires-2 : goal.place_of-requires-2
place_of-requires-2 c = rw c.split_at.ensures.back (rising_drop c.place_of.result c.args.names.now c.requires)

pub returns : goal.returns
returns c = search (rules, take-append-drop, within_part)
