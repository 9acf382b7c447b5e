use Rattle.std.proofs.Common.{◌≡◌, ◌-◌}
use Rattle.jm_class.specs.declared.class.ClassFault.TheVariants.{Short}
use Rattle.jm_class.specs.Layouts.{Number, Times, U2, reading, listed}
use Rattle.jm_class.proofs.ListReadings.{prefixed}
use Rattle.jm_class.proofs.members.interfaces.Given as goal

abbrev pub invariant-loop-k : goal.invariant-loop-k
invariant-loop-k l = reading Short (listed (Number U2)) l.fn.cursor
    ≡ prefixed (l.interfaces) (reading Short (Times (l.count - l._k) (Number U2)) l.cursor)
