use Rattle.std.proofs.Common.{◌≡◌, ◌+◌, length, drop}
use Rattle.jm_class.specs.Classes.{slot_text}
use Rattle.jm_class.specs.Views.{slot_of}
use Rattle.jm_classout.proofs.Loops.{texts}
use Rattle.jm_classout.proofs.sizes.slots_size.Given as goal

abbrev pub invariant-loop-slot : goal.invariant-loop-slot
invariant-loop-slot l = l.size + length (texts slot_of slot_text (drop l.slot-index l.slots)) ≡ length (texts slot_of slot_text l.slots)
