use Rattle.std.proofs.Common.{take}
use Rattle.jm_plugins.specs.Numbered.{AreNumbered}
use Rattle.jm_plugins.proofs.names.NameIndex.new.Given as goal

abbrev pub invariant-loop-number : goal.invariant-loop-number
invariant-loop-number l = AreNumbered (take l.number l.names) l.numbers
