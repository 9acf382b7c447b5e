use Rattle.std.proofs.Common.{◌≡◌, map, drop}
use Rattle.jm_class.specs.Views.{pool_of, attribute_of}
use Rattle.jm_modinfo.specs.Descriptors.{bodies}
use Rattle.jm_modinfo.proofs.attributes.first_named.Given as goal

abbrev pub invariant-loop-i : goal.invariant-loop-i
invariant-loop-i l =
    bodies (pool_of l.class.pool) l.name (map attribute_of (drop l.i l.attributes))
    ≡ bodies (pool_of l.class.pool) l.name (map attribute_of l.attributes)
