use Rattle.std.proofs.Common.{false}
use Rattle.jm_poolmap.proofs.NamePlaces.{name_fits}
use Rattle.jm_poolmap.proofs.naming.names_lower.Goals as goal

pub number_at-requires : goal.number_at-requires
number_at-requires c =
    let fits = rw c.in-Constant.is at c.requires in
    let sites = c.naming-rank.ensures.sites in
    name_fits c.in-Constant.tag c.in-Constant.body.now fits c.naming-rank.result.1.now sites c.loop-site.site-index
    (record { place = 0; wide = false }) c.loop-site-test.true
