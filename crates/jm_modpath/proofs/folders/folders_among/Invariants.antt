use Rattle.std.proofs.Common.{◌≡◌, take}
use Rattle.std.specs.List.{filter_map}
use Rattle.jm_form.specs.Rising.{items_of}
use Rattle.jm_modpath.specs.Modules.{folder_with_info}
use Rattle.jm_modpath.proofs.folders.folders_among.Given as goal

abbrev pub invariant-loop-name : goal.invariant-loop-name
invariant-loop-name l =
    items_of l.folders.items ≡ filter_map folder_with_info (take l.name-index l.names)
