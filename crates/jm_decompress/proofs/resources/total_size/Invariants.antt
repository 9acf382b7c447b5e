use Rattle.std.proofs.Common.{◌≡◌, ◌^◌, ◌-◌, min, take}
use Rattle.jm_decompress.specs.Decompressed.{total_size}
use Rattle.jm_decompress.proofs.resources.total_size.Given as goal

abbrev pub invariant-loop-resource : goal.invariant-loop-resource
invariant-loop-resource l = l.total ≡ min (total_size (take l.resource-index l.resources)) (2 ^ 64 - 1)
