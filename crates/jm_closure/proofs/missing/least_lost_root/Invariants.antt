use Rattle.std.proofs.Common.{◌≡◌, drop, option_map, None}
use Rattle.jm_closure.specs.ComputedLeast.{is_lost, least_of}
use Rattle.jm_closure.proofs.missing.least_lost_root.Given as goal

abbrev pub invariant-loop-root : goal.invariant-loop-root
invariant-loop-root l =
    least_of (is_lost l.names) (option_map (λ x. x.now) l.least) (drop l.root-index l.roots)
    ≡ least_of (is_lost l.names) None l.roots
