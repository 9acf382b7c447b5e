use Rattle.std.proofs.Common.{◌≡◌, drop, option_map, None, true}
use Rattle.jm_closure.specs.ComputedLeast.{chosen_of, is_required, least_of, names_where}
use Rattle.jm_closure.proofs.missing.least_that_requires.Given as goal

abbrev pub invariant-loop-place : goal.invariant-loop-place
invariant-loop-place l =
    least_of (λ _. true) (option_map (λ x. x.now) l.least)
    (names_where (is_required l.name) (chosen_of (drop l.place l.chosen) (drop l.place l.found)))
    ≡ least_of (λ _. true) None (names_where (is_required l.name) (chosen_of l.chosen l.found))
