use Rattle.std.proofs.Common.{◌≡◌, ◌-◌, map}
use Rattle.jm_class.specs.declared.class.ClassFault.TheVariants.{Short}
use Rattle.jm_class.specs.ClassLayout.{attribute_field}
use Rattle.jm_class.specs.Layouts.{Times, reading, listed}
use Rattle.jm_class.specs.Views.{pool_of, attribute_of}
use Rattle.jm_class.proofs.ListReadings.{prefixed}
use Rattle.jm_class.proofs.attributes.attributes.Given as goal

abbrev pub invariant-loop-k : goal.invariant-loop-k
invariant-loop-k l = reading Short (listed (attribute_field (pool_of l.pool) l.in_method)) l.fn.cursor
    ≡ prefixed (map attribute_of l.attributes)
    (reading Short (Times (l.count - l._k) (attribute_field (pool_of l.pool) l.in_method)) l.cursor)
