use Rattle.std.proofs.Common.{◌≡◌, take}
use Rattle.std.specs.List.{filter_map}
use Rattle.jm_form.specs.Rising.{items_of}
use Rattle.jm_pool.specs.Pairs.{names_of}
use Rattle.jm_plugins.specs.Packaging.{folder_key}
use Rattle.jm_plugins.proofs.packages.folder_keys.Given as goal

abbrev pub invariant-loop-place : goal.invariant-loop-place
invariant-loop-place l = items_of l.keys.items ≡ filter_map folder_key (take l.place (names_of l.pool))
