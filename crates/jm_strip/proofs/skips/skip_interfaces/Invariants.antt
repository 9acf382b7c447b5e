use Rattle.std.proofs.Common.{◌≡◌, ◌-◌}
use Rattle.jm_class.specs.declared.class.ClassFault.TheVariants.{Short}
use Rattle.jm_class.specs.Layouts.{Number, U2, listed, reading}
use Rattle.jm_class.specs.Readings.{counted}
use Rattle.jm_strip.specs.Walks.{shown, nothing}
use Rattle.jm_strip.proofs.skips.skip_interfaces.Given as goal

abbrev pub invariant-loop-k : goal.invariant-loop-k
invariant-loop-k l = shown nothing (reading Short (listed (Number U2)) l.fn.cursor) ≡ shown nothing (counted (l.count - l._k) (reading Short (Number U2)) l.cursor)
