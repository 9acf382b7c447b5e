use Rattle.jm_pattern.proofs.FirstItem.{goes-none, goes-further}
use Rattle.jm_pattern.proofs.items.first_item.Goals as goal

pub loop-after-init : goal.loop-after-init
loop-after-init c = goes-none c.args.text.now

pub loop-after-preserved : goal.loop-after-preserved
loop-after-preserved c = goes-further c.args.text.now c.loop-after.rest.now c.in-Some.after.now c.loop-after.invariant
    c.in-Some.ensures.goes_on
