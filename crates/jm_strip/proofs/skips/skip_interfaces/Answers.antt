use Rattle.std.proofs.Common.{◌∙◌, ap}
use Rattle.jm_strip.specs.Walks.{shown, nothing}
use Rattle.jm_strip.proofs.Shown.{skip-next}
use Rattle.jm_class.specs.declared.class.ClassFault.TheVariants.{Short}
use Rattle.jm_class.specs.Layouts.{Number, U2, reading}
use Rattle.jm_strip.proofs.skips.skip_interfaces.Goals as goal

pub loop-k-preserved : goal.loop-k-preserved
loop-k-preserved c = c.loop-k.invariant ∙ skip-next (reading Short (Number U2)) c.in_ok-count.count c.loop-k._k c.loop-k.cursor
    c.number16-in-loop-k.new.cursor c.loop-k-test.true (ap (shown nothing) c.in_ok-number16.ensures)
