use Rattle.std.proofs.Common.{◌≡◌, drop}
use Rattle.std.specs.List.{list_all}
use Rattle.jm_class.specs.Views.{pool_of}
use Rattle.jm_poolmap.specs.Sites.{names_constant}
use Rattle.jm_poolmap.proofs.naming.all_constants.Given as goal

abbrev pub invariant-loop-site : goal.invariant-loop-site
invariant-loop-site l = list_all (names_constant (pool_of l.pool)) (drop l.site-index l.found)
    ≡ list_all (names_constant (pool_of l.pool)) l.found
