use Rattle.std.proofs.Common.{◌≡◌, ◌++◌, drop, slice_index_or, false}
use Rattle.std.specs.Prelude.{filter}
use Rattle.jm_closure.proofs.judging.marked_in.Given as goal

abbrev pub invariant-loop-place : goal.invariant-loop-place
invariant-loop-place l =
    l.places.items ++ filter (λ i. slice_index_or l.marked i false) (drop l.place-index l.order)
    ≡ filter (λ i. slice_index_or l.marked i false) l.order
