use Rattle.std.proofs.Common.{◌≡◌, take}
use Rattle.jm_modpath.specs.Finding.{names_within}
use Rattle.jm_modpath.proofs.folders.names_within.Given as goal

abbrev pub invariant-loop-name : goal.invariant-loop-name
invariant-loop-name l = l.rests ≡ names_within l.folder (take l.name-index l.name-items)
