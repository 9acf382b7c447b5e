use Rattle.std.proofs.Common.{◌≡◌, ◌++◌, drop, map}
use Rattle.jm_poolmap.specs.Sites.{site_of}
use Rattle.jm_poolmap.proofs.finding.pool_map.Given as goal

abbrev pub invariant-loop-site : goal.invariant-loop-site
invariant-loop-site l = l.sites ++ map site_of (drop l.site-index l.found) ≡ map site_of l.found
