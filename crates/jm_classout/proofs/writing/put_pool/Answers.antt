use Rattle.jm_class.specs.Views.{slot_of}
use Rattle.jm_classout.specs.Fits.{FitsSlot}
use Rattle.jm_classout.proofs.Loops.{each_index}
use Rattle.jm_classout.proofs.writing.put_pool.Goals as goal

pub put_slot-requires : goal.put_slot-requires
put_slot-requires c = each_index slot_of FitsSlot c.args.pool.now c.loop-slot.slot-index _ c.requires.slots c.loop-slot-test.true
