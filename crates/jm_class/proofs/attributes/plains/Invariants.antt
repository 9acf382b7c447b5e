use Rattle.std.proofs.Common.{◌≡◌, ◌-◌, map}
use Rattle.jm_class.specs.ClassLayout.{opaque_field}
use Rattle.jm_class.specs.Layouts.{Times, reading, listed}
use Rattle.jm_class.specs.Views.{fault_at, pool_of, opaque_of}
use Rattle.jm_class.proofs.ListReadings.{prefixed}
use Rattle.jm_class.proofs.attributes.plains.Given as goal

abbrev pub invariant-loop-k : goal.invariant-loop-k
invariant-loop-k l = reading (fault_at l.missing) (listed (opaque_field (pool_of l.pool))) l.fn.cursor
    ≡ prefixed (map opaque_of l.attributes) (reading (fault_at l.missing) (Times (l.count - l._k) (opaque_field (pool_of l.pool))) l.cursor)
