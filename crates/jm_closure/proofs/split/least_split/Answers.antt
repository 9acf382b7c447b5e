use Rattle.std.proofs.Common.{arith, option_map}
use Rattle.jm_closure.specs.Graphs.{IsMarked}
use Rattle.jm_closure.specs.Modules.{HasPackage}
use Rattle.jm_closure.proofs.HolderLaws.{marked_takes, marked_skips, none_below, noted_all}
use Rattle.jm_closure.proofs.NameLaws.{within_found}
use Rattle.jm_closure.proofs.split.least_split.Goals as goal
use Rattle.jm_closure.proofs.split.least_split.Goals.{then-chosen-place+in_ok-least, else-chosen-place}

pub loop-place-init : goal.loop-place-init
loop-place-init c =
    rw c.new-holders.ensures (none_below (λ i text. IsMarked c.args.chosen.now i × HasPackage c.args.found.now i text))

pub loop-place-preserved : goal.loop-place-preserved
loop-place-preserved c =
    elim c.if-chosen-place.branch [
      | then-chosen-place+in_ok-least w ↦ rw (w.holders-is, w.least-is)
          (marked_takes c.args.found.now c.args.chosen.now c.loop-place.place c.index-found-place.result
          c.loop-place.holders w.note.new.holders (option_map (λ x. x.now) c.loop-place.least) (option_map (λ x. x.now) w.in_ok-least.least)
          c.loop-place-test.true c.index-found-place.is w.if-chosen-place.true
          (rw w.as_slice.ensures at w.in_ok-least.ensures) c.loop-place.invariant)
      | else-chosen-place w ↦ rw (w.holders-is, w.least-is)
          (marked_skips c.args.found.now c.args.chosen.now c.loop-place.place
          c.loop-place.holders (option_map (λ x. x.now) c.loop-place.least) w.if-chosen-place.false c.loop-place.invariant)
    ]

pub returns : goal.returns
returns c =
    noted_all (λ i text. IsMarked c.args.chosen.now i × HasPackage c.args.found.now i text) c.loop-place.place
    c.loop-place.holders (option_map (λ x. x.now) c.loop-place.least)
    (λ i text held. let within = within_found c.args.found.now i held.1.0 held.1.1 in omega arith)
    c.loop-place.invariant
