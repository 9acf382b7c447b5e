use Rattle.std.proofs.Common.{◌≡◌, drop, option_map, None}
use Rattle.jm_closure.specs.ComputedLeast.{chosen_of, differs, holds, least_of, names_where}
use Rattle.jm_closure.proofs.split.least_holder.Given as goal

abbrev pub invariant-loop-place : goal.invariant-loop-place
invariant-loop-place l =
    least_of (differs (option_map (λ x. x.now) l.but)) (option_map (λ x. x.now) l.least)
    (names_where (holds l.«package») (chosen_of (drop l.place l.chosen) (drop l.place l.found)))
    ≡ least_of (differs (option_map (λ x. x.now) l.but)) None
    (names_where (holds l.«package») (chosen_of l.chosen l.found))
