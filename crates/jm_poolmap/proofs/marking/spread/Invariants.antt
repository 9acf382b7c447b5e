use Rattle.std.proofs.Common.{◌≡◌, drop, map}
use Rattle.jm_poolmap.specs.ComputedLive.{with_marks}
use Rattle.jm_poolmap.proofs.NamePlaces.{number}
use Rattle.jm_poolmap.proofs.marking.spread.Given as goal

abbrev pub invariant-loop-site : goal.invariant-loop-site
invariant-loop-site l = with_marks l.flags (map (λ s. number l.body.now s.place) (drop l.site-index l.sites))
    ≡ with_marks l.fn.flags (map (λ s. number l.body.now s.place) l.sites)
