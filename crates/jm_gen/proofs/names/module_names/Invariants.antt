use Rattle.std.proofs.Common.{◌≡◌}
use Rattle.jm_gen.specs.Generated.{module_names}
use Rattle.jm_gen.proofs.names.module_names.Given as goal

abbrev pub invariant-loop-number : goal.invariant-loop-number
invariant-loop-number l = l.names ≡ module_names l.number
