use Rattle.std.proofs.Common.{◌≡◌, drop}
use Rattle.jm_class.specs.Views.{pool_of}
use Rattle.jm_poolmap.specs.ComputedLive.{spread_from}
use Rattle.jm_poolmap.proofs.marking.spread_all.Given as goal

abbrev pub invariant-loop-place : goal.invariant-loop-place
invariant-loop-place l = spread_from l.place (pool_of (drop l.place l.pool)) l.flags ≡ spread_from 0 (pool_of l.pool) l.fn.flags
