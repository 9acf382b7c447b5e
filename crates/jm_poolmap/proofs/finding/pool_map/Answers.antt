use Rattle.std.proofs.Common.{false, sym, ◌∙◌}
use Rattle.jm_class.specs.Views.{plain, pool_of}
use Rattle.jm_classout.proofs.ClassTexts.{slots_fit}
use Rattle.jm_poolmap.proofs.ComputedLiveLaws.{flags_tell}
use Rattle.jm_poolmap.proofs.finding.pool_map.Goals as goal

pub all_lower-requires : goal.all_lower-requires
all_lower-requires c = rw c.as_slice-pool.ensures (slots_fit false (pool_of c.args.class.now.pool) c.requires.well_formed.pool)

pub flags_of-requires : goal.flags_of-requires
flags_of-requires c = rw c.as_slice-pool.ensures (slots_fit false (pool_of c.args.class.now.pool) c.requires.well_formed.pool)

pub returns-clause-live : goal.returns-clause-live
returns-clause-live c =
    let lower = rw c.as_slice-pool.ensures at c.all_lower.ensures in
    let tell = flags_tell (plain c.args.class.now) c.requires.well_formed c.in-Some.found (sym (rw c.in-Some.is at c.in_ok-found.ensures))
    (sym lower ∙ c.if-not-all_lower.false) in
    let flags = rw (c.as_slice-pool.ensures, c.as_slice-found.ensures) at c.in_ok-live.ensures in
    rw flags tell
