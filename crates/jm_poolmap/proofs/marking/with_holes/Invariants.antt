use Rattle.std.proofs.Common.{◌≡◌, ◌++◌, drop, false}
use Rattle.jm_class.specs.Views.{pool_of}
use Rattle.jm_poolmap.specs.ComputedLive.{with_holes}
use Rattle.jm_poolmap.proofs.marking.with_holes.Given as goal

abbrev pub invariant-loop-place : goal.invariant-loop-place
invariant-loop-place l = l.list ++ with_holes l.live (pool_of (drop l.place l.pool)) (drop l.place l.flags)
    ≡ with_holes false (pool_of l.pool) l.flags
