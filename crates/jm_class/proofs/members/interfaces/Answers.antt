use Rattle.std.proofs.Common.{◌∙◌}
use Rattle.jm_class.specs.declared.class.ClassFault.TheVariants.{Short}
use Rattle.jm_class.specs.Layouts.{Number, U2, reading}
use Rattle.jm_class.proofs.ListReadings.{counted-next}
use Rattle.jm_class.proofs.members.interfaces.Goals as goal

pub loop-k-preserved : goal.loop-k-preserved
loop-k-preserved c =
    rw c.in_ok-push.ensures.ok
    (c.loop-k.invariant ∙ counted-next c.in_ok-count.count c.loop-k._k (reading Short (Number U2)) c.loop-k.interfaces c.loop-k.cursor
    c.number16-in-loop-k.new.cursor c.in_ok-interface.interface c.loop-k-test.true c.in_ok-interface.ensures)
