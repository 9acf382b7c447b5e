use Rattle.std.proofs.Common.{◌≡◌, ◌++◌, drop}
use Rattle.jm_modset.specs.Found.{plain_names}
use Rattle.jm_modset.proofs.roots.plain_names.Given as goal

abbrev pub invariant-loop-name : goal.invariant-loop-name
invariant-loop-name l = l.names ++ plain_names (drop l.name-index l.asked) ≡ plain_names l.asked
