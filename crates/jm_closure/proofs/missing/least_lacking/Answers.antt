use Rattle.std.proofs.Common.{◌+◌, ◌∙◌, ◌<◌, sym, arith, length, drop}
use Rattle.std.specs.Prelude.{flat_map}
use Rattle.jm_closure.specs.ComputedLeast.{chosen_of, is_lost}
use Rattle.jm_closure.specs.Modules.{required_by}
use Rattle.jm_closure.proofs.LeastLaws.{least_of-append, chosen_skips, chosen_takes}
use Rattle.jm_closure.proofs.missing.least_lacking.Goals as goal
use Rattle.jm_closure.proofs.missing.least_lacking.Goals.{then-chosen-place, else-chosen-place}

pub loop-place-preserved : goal.loop-place-preserved
loop-place-preserved c =
    let flagged : c.loop-place.place < length c.args.chosen.now = omega arith in
    let rest = chosen_of (drop (c.loop-place.place + 1) c.args.chosen.now) (drop (c.loop-place.place + 1) c.args.found.now) in
    elim c.if-chosen-place.branch [
      | then-chosen-place w ↦
          rw (w.least-is, w.lesser_lack-least.ensures)
          (sym (least_of-append (is_lost c.args.names.now) _ (required_by c.index-found-place.result) (flat_map required_by rest))
          ∙ (rw (chosen_takes c.args.chosen.now c.args.found.now c.loop-place.place c.index-found-place.result flagged
          c.loop-place-test.true c.index-found-place.is w.if-chosen-place.true) at c.loop-place.invariant))
      | else-chosen-place w ↦
          rw w.least-is
          (rw (chosen_skips c.args.chosen.now c.args.found.now c.loop-place.place c.index-found-place.result flagged
          c.loop-place-test.true c.index-found-place.is w.if-chosen-place.false) at c.loop-place.invariant)
    ]
