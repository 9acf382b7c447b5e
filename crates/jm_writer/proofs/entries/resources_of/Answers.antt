use Rattle.std.proofs.Common.{◌∷◌, [], append_assoc, length}
use Rattle.jm_writer.proofs.ItemLaws.{drop_there}
use Rattle.jm_writer.proofs.entries.resources_of.Goals as goal

pub loop-place-preserved : goal.loop-place-preserved
loop-place-preserved c =
    let there = drop_there c.args.pool.now c.loop-place.place (c.at.result.0.now, c.at.result.1.now) c.at.ensures in
    record {
      names = rw (c.in_ok-push.ensures.items, c.in_ok-copy_of.ensures, ← c.loop-place.invariant.names, there) (append_assoc c.loop-place.names.items
          (c.at.result.0.now ∷ []) _);
      sizes = rw (c.in_ok-push-2.ensures.items, ← c.loop-place.invariant.sizes, there) (append_assoc c.loop-place.sizes.items
          (length c.at.result.1.now ∷ []) _);
    }
