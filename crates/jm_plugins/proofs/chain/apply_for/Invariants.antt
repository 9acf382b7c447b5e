use Rattle.std.proofs.Common.{Result, drop}
use Rattle.jm_plugins.specs.declared.chain.BadClass.{BadClass}
use Rattle.jm_plugins.specs.Plugins.{Applies, Pairs}
use Rattle.jm_plugins.proofs.chain.apply_for.Given as goal

-- what the plug-ins that are left make of the pool is what all make of the first one
abbrev pub invariant-loop-number : goal.invariant-loop-number
invariant-loop-number g l =
    (result : Result Pairs BadClass) → Applies l.fn.release (drop l.number l.list) l.pool result
    → Applies l.fn.release l.fn.list l.fn.pool result
