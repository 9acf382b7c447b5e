use Rattle.std.proofs.Common.{◌≡◌, ◌++◌, map}
use Rattle.jm_closure.proofs.places.Places.rising.Given as goal

abbrev pub invariant-loop-place : goal.invariant-loop-place
invariant-loop-place l = record {
  can : (goal.iterator-loop-place).can_next l.place-iterator;
  ends : (goal.iterator-loop-place).is_finite l.place-iterator;
  so_far : l.places.items ++ map (λ e. e.1) l.place-iterator ≡ map (λ e. e.1) l.self;
}
