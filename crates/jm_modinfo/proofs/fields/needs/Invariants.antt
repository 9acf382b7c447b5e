use Rattle.std.proofs.Common.{◌≡◌, ◌-◌}
use Rattle.jm_class.proofs.ListReadings.{prefixed}
use Rattle.jm_class.specs.Layouts.{Times, reading, listed}
use Rattle.jm_modinfo.specs.ModuleLayout.{need}
use Rattle.jm_modinfo.specs.declared.faults.InfoFault.TheVariants.{Short}
use Rattle.jm_modinfo.proofs.fields.needs.Given as goal

abbrev pub invariant-loop-k : goal.invariant-loop-k
invariant-loop-k l =
    (l.texts ≡ l.fn.texts)
    × (reading Short (listed (need l.fn.texts.pool)) l.fn.cursor
    ≡ prefixed l.needs (reading Short (Times (l.count - l._k) (need l.fn.texts.pool)) l.cursor))
