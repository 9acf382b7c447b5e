use Rattle.std.proofs.Common.{◌≡◌, take}
use Rattle.jm_plugins.specs.Packaging.{folders_by}
use Rattle.jm_plugins.proofs.packages.folders_by.Given as goal

abbrev pub invariant-loop-key : goal.invariant-loop-key
invariant-loop-key l = l.folders ≡ folders_by (take l.key-index l.key-items) l.«module»
