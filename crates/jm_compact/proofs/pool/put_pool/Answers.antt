use Rattle.std.proofs.Common.{[]}
use Rattle.jm_class.specs.declared.class.Slot.TheVariants.{Constant}
use Rattle.jm_class.specs.Views.{slot_of}
use Rattle.jm_classout.specs.Fits.{FitsSlot}
use Rattle.jm_classout.proofs.Loops.{each_index}
use Rattle.jm_compact.specs.Steps.{by_numbers}
use Rattle.jm_compact.proofs.KeptTexts.{put_kept, left_out}
use Rattle.jm_compact.proofs.pool.put_pool.Goals as goal
use Rattle.jm_compact.proofs.pool.put_pool.Goals.{then-flags-place+in_ok-put_slot, else-flags-place}

pub put_slot-requires : goal.put_slot-requires
put_slot-requires c = each_index slot_of FitsSlot c.args.pool.now c.loop-place.place _ c.requires.slots c.loop-place-test.true

pub loop-place-preserved : goal.loop-place-preserved
loop-place-preserved c =
    let new = by_numbers c.args.numbers.now in
    let more = c.loop-place-test.true in
    let none = Constant 0 (record { ref_ptr = (0, 0); now = [] }) in
    elim c.if-flags-place.branch [
      | then-flags-place+in_ok-put_slot w ↦
          rw w.text-is (put_kept new c.args.flags.now c.args.pool.now c.loop-place.place none more c.requires.flags c.loop-place.text.items
          w.put_slot.new.text.items _ w.if-flags-place.true w.in_ok-put_slot.ensures c.loop-place.invariant)
      | else-flags-place w ↦
          rw w.text-is (left_out new c.args.flags.now c.args.pool.now c.loop-place.place none more c.requires.flags
          c.loop-place.text.items _ w.if-flags-place.false c.loop-place.invariant)
    ]
