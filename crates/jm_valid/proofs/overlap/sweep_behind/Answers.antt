use Rattle.std.proofs.Common.{[], ◌∷◌, ◌++◌, sym, subst}
use Rattle.jm_form.specs.Overlap.{MeetsOne}
use Rattle.jm_valid.specs.Ranges.{IsLeastIfAny}
use Rattle.jm_valid.proofs.Sweeping.{skips_next, swept_next, takes_lesser}
use Rattle.jm_valid.proofs.overlap.sweep_behind.Goals as goal
use Rattle.jm_valid.proofs.overlap.sweep_behind.Goals.{then-next-furthest, else-next-furthest}

pub returns : goal.returns
returns c seen swept follows =
    let sweep = c.args.sweep in
    let next = c.args.next in
    let now = seen ++ next ∷ [] in
    swept_next seen sweep next c.further.result c.if-next-furthest.least swept c.further.ensures.from c.further.ensures.first
    c.further.ensures.second (elim c.if-next-furthest.branch [
      | then-next-furthest w ↦
          let lesser = w.lesser.ensures in
          let least = w.least_with.ensures in
          subst (IsLeastIfAny (MeetsOne now) now) (sym w.least-is) (takes_lesser seen sweep next w.lesser.result w.least_with.result
          swept follows c.requires w.if-next-furthest.true lesser.from lesser.first lesser.second least.from least.below least.last)
      | else-next-furthest w ↦ subst (IsLeastIfAny (MeetsOne now) now) (sym w.least-is) (skips_next seen sweep next swept follows
          w.if-next-furthest.false)
    ])
