use Rattle.std.proofs.Common.{◌≡◌, ◌++◌, drop}
use Rattle.jm_class.specs.Classes.{slot_text}
use Rattle.jm_class.specs.Views.{slot_of}
use Rattle.jm_classout.proofs.Loops.{texts}
use Rattle.jm_classout.proofs.writing.put_pool.Given as goal

abbrev pub invariant-loop-slot : goal.invariant-loop-slot
invariant-loop-slot l = l.text.items ++ texts slot_of slot_text (drop l.slot-index l.pool) ≡ l.initial.text.items
    ++ texts slot_of slot_text l.pool
