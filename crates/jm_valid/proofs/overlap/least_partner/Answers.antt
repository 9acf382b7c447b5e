use Rattle.std.proofs.Common.{sym, ◌∙◌, subst, get_or, take, ◌+◌}
use Rattle.std.proofs.lemmas.Bool.{false≢true}
use Rattle.jm_form.specs.declared.ranges.Range.{Range}
use Rattle.jm_form.specs.Overlap.{Meets}
use Rattle.jm_form.proofs.OverlapLaws.{from_meets, meets_from}
use Rattle.jm_valid.specs.Ranges.{IsLeastIfAny}
use Rattle.jm_valid.proofs.LeastRanges.{least_all, least_nil, least_skips_at, least_takes_at}
use Rattle.jm_valid.proofs.overlap.least_partner.Goals as goal
use Rattle.jm_valid.proofs.overlap.least_partner.Goals.{then-overlaps, else-overlaps}

pub loop-other-init : goal.loop-other-init
loop-other-init c = least_nil (Meets c.args.range.now)

pub loop-other-preserved : goal.loop-other-preserved
loop-other-preserved c =
    let range = c.args.range.now in
    let ranges = c.args.ranges.now in
    let i = c.loop-other.other-index in
    let none : Range = record { start = 0; slot = 0; end = 0 } in
    let other = get_or ranges i none in
    elim c.if-overlaps.branch [
      | then-overlaps w ↦
          let met = from_meets range other (sym c.overlaps.ensures ∙ w.if-overlaps.true) in
          let least = w.least_with.ensures in
          subst (IsLeastIfAny (Meets range) (take (i + 1) ranges)) (sym w.least-is) (least_takes_at (Meets range) ranges
          c.loop-other.least i none w.least_with.result c.loop-other-test.true c.loop-other.invariant met least.from least.below
          least.last)
      | else-overlaps w ↦
          let apart = sym w.if-overlaps.false ∙ c.overlaps.ensures in
          subst (IsLeastIfAny (Meets range) (take (i + 1) ranges)) (sym w.least-is) (least_skips_at (Meets range) ranges
          c.loop-other.least i none c.loop-other-test.true c.loop-other.invariant (λ met. false≢true (apart
          ∙ meets_from range other met)))
    ]

pub returns : goal.returns
returns c = least_all (Meets c.args.range.now) c.args.ranges.now c.loop-other.least c.loop-other.other-index c.loop-other-test.false
    c.loop-other.invariant
