use Rattle.jm_class.specs.Views.{slot_of}
use Rattle.jm_classout.specs.Fits.{FitsSlot}
use Rattle.jm_classout.proofs.Loops.{each_index}
use Rattle.jm_poolmap.proofs.naming.all_lower.Goals as goal

pub names_lower-requires : goal.names_lower-requires
names_lower-requires c = each_index slot_of FitsSlot c.args.pool.now c.loop-slot.slot-index _ c.requires c.loop-slot-test.true
