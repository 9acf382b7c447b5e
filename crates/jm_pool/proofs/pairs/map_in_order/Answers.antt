use Rattle.std.proofs.Common.{◌∙◌, ap, refl, length}
use Rattle.std.proofs.lemmas.List.{length-set}
use Rattle.jm_pool.proofs.OrderLaws.{order_next, once_next, none_so_far}
use Rattle.jm_pool.proofs.pairs.map_in_order.Goals as goal

pub add-requires : goal.add-requires
add-requires c =
    let i = c.loop-n.invariant in
    let item = c.pair_out_of-name.result in
    let next = order_next c.args.order.now c.loop-n.n _ c.loop-n.list _ c.loop-n.pairs.entries item item c.loop-n-test.true refl
    c.pair_out_of-name.ensures.pair i.once i.so_far in
    none_so_far (λ e. (e.0.items, e.1.items)) c.args.order.now c.args.list.now c.loop-n.pairs.entries _ item next c.requires.differ

pub loop-n-preserved : goal.loop-n-preserved
loop-n-preserved c =
    let i = c.loop-n.invariant in
    let left = c.pair_out_of-name.ensures.left in
    record {
      size = ap length left.1 ∙ length-set _ _ _ ∙ i.size;
      once = once_next c.args.order.now c.loop-n.n c.loop-n-test.true i.once;
      so_far = rw (c.in_ok-add.ensures.ok, left.1) (order_next c.args.order.now c.loop-n.n _ c.loop-n.list _ c.loop-n.pairs.entries
          c.pair_out_of-name.result left.0 c.loop-n-test.true refl c.pair_out_of-name.ensures.pair i.once i.so_far);
    }
