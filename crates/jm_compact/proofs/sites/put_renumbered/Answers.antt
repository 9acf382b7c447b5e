use Rattle.std.proofs.Common.{◌+◌, length, false, arith}
use Rattle.jm_compact.proofs.SiteSteps.{next_fits}
use Rattle.jm_compact.proofs.sites.put_renumbered.Goals as goal

pub split_at-requires : goal.split_at-requires
split_at-requires c =
    let fits = next_fits c.args.sites.now c.loop-site.site-index (record { place = 0; wide = false }) c.loop-site-test.true
    c.loop-site.at (c.args.place + length c.args.bytes.now) (length c.loop-site.rest.now) c.loop-site.invariant.1
    c.loop-site.invariant.0 in
    omega (arith, fits)

pub split_at-requires-in-loop-site : goal.split_at-requires-in-loop-site
split_at-requires-in-loop-site c =
    let fits = next_fits c.args.sites.now c.loop-site.site-index (record { place = 0; wide = false }) c.loop-site-test.true
    c.loop-site.at (c.args.place + length c.args.bytes.now) (length c.loop-site.rest.now) c.loop-site.invariant.1
    c.loop-site.invariant.0 in
    let left = c.split_at.ensures.back_len in
    let size = c.size.ensures in
    omega (arith, fits, left, size)
