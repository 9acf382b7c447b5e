use Rattle.std.proofs.Common.{◌++◌, length, ◌∙◌}
use Rattle.jm_class.specs.Views.{pool_of}
use Rattle.jm_modinfo.specs.Written.{need_slots}
use Rattle.jm_modinfo.proofs.WrittenLoops.{numbers-front, numbers-behind, slots-next}
use Rattle.jm_modinfo.proofs.writing.push_needs.Goals as goal

pub loop-need-preserved : goal.loop-need-preserved
loop-need-preserved c =
    let count = length c.args.needs.now in
    let i = c.loop-need.need-index in
    let rest = c.loop-need.invariant.0 in (
      c.split_at.ensures.back ∙ numbers-behind count i c.loop-need-test.true c.loop-need.rest.now rest,
      slots-next c.args.needs.now i c.need-item.result c.loop-need-test.true c.need-item.is (pool_of c.loop-need.pool)
          (pool_of c.push_named.new.pool)
          (pool_of c.args.pool.now ++ need_slots 6 c.args.needs.now)
          c.split_at.result.0.now c.loop-need.invariant.1
          (rw c.as_slice.ensures at c.in_ok-push_named.ensures)
          (c.split_at.ensures.front ∙ numbers-front count i c.loop-need-test.true c.loop-need.rest.now rest),
    )
