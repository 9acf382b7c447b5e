use Rattle.std.proofs.Common.{◌≡◌, ◌++◌, drop, map}
use Rattle.jm_closure.specs.Modules.{name_of}
use Rattle.jm_modset.proofs.roots.push_names.Given as goal

abbrev pub invariant-loop-module : goal.invariant-loop-module
invariant-loop-module l =
    l.names ++ map name_of (drop l.module-index l.named) ≡ l.fn.names ++ map name_of l.named
