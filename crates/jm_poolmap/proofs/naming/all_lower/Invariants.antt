use Rattle.std.proofs.Common.{◌≡◌, drop}
use Rattle.std.specs.List.{list_all}
use Rattle.jm_class.specs.Views.{pool_of}
use Rattle.jm_poolmap.specs.Sites.{names_lower}
use Rattle.jm_poolmap.proofs.naming.all_lower.Given as goal

abbrev pub invariant-loop-slot : goal.invariant-loop-slot
invariant-loop-slot l = list_all (names_lower (pool_of l.pool)) (pool_of (drop l.slot-index l.pool))
    ≡ list_all (names_lower (pool_of l.pool)) (pool_of l.pool)
