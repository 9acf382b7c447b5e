use Rattle.jm_class.specs.Views.{slot_of}
use Rattle.jm_classout.specs.Fits.{FitsSlot}
use Rattle.jm_classout.proofs.Loops.{each_index}
use Rattle.jm_poolmap.proofs.marking.spread_all.Goals as goal

pub spread-requires : goal.spread-requires
spread-requires c = each_index slot_of FitsSlot c.args.pool.now c.loop-place.place _ c.requires c.loop-place-test.true
