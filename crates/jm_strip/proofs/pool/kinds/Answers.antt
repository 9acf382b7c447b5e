use Rattle.std.proofs.Common.{◌∙◌}
use Rattle.jm_bytes.specs.declared.faults.Or.TheVariants.{Fault}
use Rattle.jm_class.specs.Views.{slot_of}
use Rattle.jm_class.proofs.Stops.{gives_stop}
use Rattle.jm_strip.proofs.KindLaws.{kinds-next, kinds-stop}
use Rattle.jm_strip.proofs.pool.kinds.Goals as goal

pub returns-in_err-slot : goal.returns-in_err-slot
returns-in_err-slot c =
    gives_stop slot_of (λ kinds. kinds.items) _ _ (Fault c.in_err-slot.field-0.0) c.from_residual-in_err-slot.result c.slot.new.cursor
    c.slot.new.cursor c.from_residual-in_err-slot.ensures.1 c.in_err-slot.ensures
    (λ fault stops. c.loop-k.invariant ∙ kinds-stop c.args.count c.loop-k.k c.loop-k.due c.loop-k.cursor c.loop-k.kinds.items fault
    c.loop-k-test.true stops)

pub loop-k-preserved : goal.loop-k-preserved
loop-k-preserved c =
    rw c.is_wide_slot-due.ensures
    (c.loop-k.invariant ∙ kinds-next c.args.count c.loop-k.k c.loop-k.due c.loop-k.cursor c.slot.new.cursor
    (slot_of c.in_ok-slot.slot) c.loop-k.kinds.items c.push.new.self.items c.loop-k-test.true c.in_ok-slot.ensures
    (rw c.kind_of.ensures at c.in-Ok.ensures.items))
