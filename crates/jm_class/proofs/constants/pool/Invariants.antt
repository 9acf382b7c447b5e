use Rattle.std.proofs.Common.{◌≡◌, ◌-◌}
use Rattle.jm_class.specs.declared.class.ClassFault.TheVariants.{Short}
use Rattle.jm_class.specs.ClassLayout.{pool_field, slots}
use Rattle.jm_class.specs.Layouts.{reading}
use Rattle.jm_class.specs.Views.{pool_of}
use Rattle.jm_class.proofs.ListReadings.{prefixed}
use Rattle.jm_class.proofs.constants.pool.Given as goal

abbrev pub invariant-loop-k : goal.invariant-loop-k
invariant-loop-k l = reading Short pool_field l.fn.cursor ≡ prefixed (pool_of l.slots) (reading Short (slots (l.numbers - l.k) l.due) l.cursor)
