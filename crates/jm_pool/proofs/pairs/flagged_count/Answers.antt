use Rattle.std.proofs.Common.{◌∙◌, sym, arith}
use Rattle.jm_pool.proofs.FlagLaws.{flagged_kept, flagged_gone}
use Rattle.jm_pool.proofs.pairs.flagged_count.Goals as goal
use Rattle.jm_pool.proofs.pairs.flagged_count.Goals.{then-stays, else-stays}

pub loop-place-preserved : goal.loop-place-preserved
loop-place-preserved c =
    let i = c.loop-place.invariant in
    elim c.if-stays.branch [
      | then-stays w ↦
          let same = w.swap_indices.ensures.reordered.1 in
          rw (w.front-is, w.pairs-is) (record {
            before = omega (arith, i.before);
            size = i.size ∙ sym same;
            so_far = rw w.swap_indices.ensures.entries (flagged_kept c.args.keep.now c.loop-place.pairs.entries _ c.loop-place.front
                c.loop-place.place i.before c.loop-place-test.true i.size w.if-stays.true i.so_far);
          })
      | else-stays w ↦
          rw (w.front-is, w.pairs-is) (record {
            before = omega (arith, i.before);
            size = i.size;
            so_far = flagged_gone c.args.keep.now c.loop-place.pairs.entries _ c.loop-place.front c.loop-place.place
                c.loop-place-test.true i.size w.if-stays.false i.so_far;
          })
    ]
