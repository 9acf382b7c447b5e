use Rattle.std.proofs.Common.{◌≡◌, ◌++◌, drop, map}
use Rattle.jm_decompress.specs.Steps.{placed_of}
use Rattle.jm_decompress.proofs.resources.placed_names.Given as goal

abbrev pub invariant-loop-resource : goal.invariant-loop-resource
invariant-loop-resource l =
    l.names ++ map placed_of (drop l.resource-index l.resources) ≡ map placed_of l.resources
