use Rattle.std.proofs.Common.{◌≡◌, ◌-◌}
use Rattle.jm_class.proofs.ListReadings.{prefixed}
use Rattle.jm_class.specs.Layouts.{Times, reading, listed}
use Rattle.jm_modinfo.specs.ModuleLayout.{opened}
use Rattle.jm_modinfo.specs.declared.faults.InfoFault.TheVariants.{Short}
use Rattle.jm_modinfo.proofs.fields.all_opened.Given as goal

abbrev pub invariant-loop-k : goal.invariant-loop-k
invariant-loop-k l =
    (l.texts ≡ l.fn.texts)
    × (reading Short (listed (opened l.fn.texts.pool)) l.fn.cursor
    ≡ prefixed l.all (reading Short (Times (l.count - l._k) (opened l.fn.texts.pool)) l.cursor))
