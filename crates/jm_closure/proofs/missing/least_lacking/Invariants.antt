use Rattle.std.proofs.Common.{◌≡◌, drop, option_map, None}
use Rattle.std.specs.Prelude.{flat_map}
use Rattle.jm_closure.specs.ComputedLeast.{chosen_of, is_lost, least_of}
use Rattle.jm_closure.specs.Modules.{required_by}
use Rattle.jm_closure.proofs.missing.least_lacking.Given as goal

abbrev pub invariant-loop-place : goal.invariant-loop-place
invariant-loop-place l =
    least_of (is_lost l.names) (option_map (λ x. x.now) l.least)
    (flat_map required_by (chosen_of (drop l.place l.chosen) (drop l.place l.found)))
    ≡ least_of (is_lost l.names) None (flat_map required_by (chosen_of l.chosen l.found))
