use Rattle.std.proofs.Common.{◌≡◌, drop, false, length, map, replicate}
use Rattle.jm_poolmap.specs.ComputedLive.{with_marks}
use Rattle.jm_poolmap.proofs.marking.flags_of.Given as goal

abbrev pub invariant-loop-site : goal.invariant-loop-site
invariant-loop-site l = with_marks l.flags.items (map (λ f. f.number) (drop l.site-index l.found))
    ≡ with_marks (replicate (length l.pool) false) (map (λ f. f.number) l.found)
