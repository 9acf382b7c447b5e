use Rattle.std.proofs.Common.{◌≡◌, ◌++◌, drop}
use Rattle.jm_closure.specs.Names.{edges_of}
use Rattle.jm_closure.proofs.names.edges_of.Given as goal

abbrev pub invariant-loop-candidate : goal.invariant-loop-candidate
invariant-loop-candidate l =
    l.graph ++ edges_of l.names (drop l.candidate-index l.found) ≡ edges_of l.names l.found
