use Rattle.jm_bytes.specs.declared.faults.Or.TheVariants.{Fault}
use Rattle.std.proofs.Common.{◌-◌, ◌∙◌}
use Rattle.jm_class.specs.Views.{slot_of, pool_of}
use Rattle.jm_class.proofs.ListReadings.{slots-next, slots-stop}
use Rattle.jm_class.proofs.Stops.{gives_stop, map_pushed}
use Rattle.jm_class.proofs.constants.pool.Goals as goal

pub returns-in_err-slot : goal.returns-in_err-slot
returns-in_err-slot c =
    gives_stop slot_of pool_of _ _ (Fault c.in_err-slot.field-0.0) c.from_residual-in_err-slot.result c.slot.new.cursor c.slot.new.cursor
    c.from_residual-in_err-slot.ensures.1 c.in_err-slot.ensures
    (λ fault stops. c.loop-k.invariant ∙ slots-stop (c.in_ok-count.count - 1) c.loop-k.k c.loop-k.due (pool_of c.loop-k.slots)
    c.loop-k.cursor fault c.loop-k-test.true stops)

pub loop-k-preserved : goal.loop-k-preserved
loop-k-preserved c =
    let grown = map_pushed slot_of c.loop-k.slots c.push.new.self c.in_ok-slot.slot c.in_ok-push.ensures.ok in
    rw (grown, c.is_wide_slot-due.ensures)
    (c.loop-k.invariant ∙ slots-next (c.in_ok-count.count - 1) c.loop-k.k c.loop-k.due (pool_of c.loop-k.slots) c.loop-k.cursor
    c.slot.new.cursor (slot_of c.in_ok-slot.slot) c.loop-k-test.true c.in_ok-slot.ensures)
