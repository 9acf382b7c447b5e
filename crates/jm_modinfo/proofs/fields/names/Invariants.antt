use Rattle.std.proofs.Common.{◌≡◌, ◌-◌}
use Rattle.jm_class.proofs.ListReadings.{prefixed}
use Rattle.jm_class.specs.Layouts.{Times, reading, listed}
use Rattle.jm_modinfo.specs.ModuleLayout.{named}
use Rattle.jm_modinfo.specs.declared.faults.InfoFault.TheVariants.{Short}
use Rattle.jm_modinfo.proofs.fields.names.Given as goal

abbrev pub invariant-loop-k : goal.invariant-loop-k
invariant-loop-k l =
    (l.texts ≡ l.fn.texts)
    × (reading Short (listed (named l.fn.texts.pool l.kind)) l.fn.cursor
    ≡ prefixed l.names (reading Short (Times (l.count - l._k) (named l.fn.texts.pool l.kind)) l.cursor))
