use Rattle.std.proofs.Common.{◌≡◌, drop, map}
use Rattle.std.specs.List.{list_all}
use Rattle.jm_class.specs.Views.{pool_of}
use Rattle.jm_poolmap.specs.Sites.{rank_at, is_some_below}
use Rattle.jm_poolmap.proofs.NamePlaces.{number}
use Rattle.jm_poolmap.proofs.naming.names_lower.Given as goal

abbrev pub invariant-loop-site : goal.invariant-loop-site
invariant-loop-site l = list_all (λ n. is_some_below l.rank (rank_at (pool_of l.pool) n))
    (map (λ s. number l.body.now s.place) (drop l.site-index l.sites)) ≡ list_all (λ n. is_some_below l.rank (rank_at (pool_of l.pool) n))
    (map (λ s. number l.body.now s.place) l.sites)
