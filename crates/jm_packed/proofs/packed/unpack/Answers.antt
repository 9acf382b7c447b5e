-- The stream after the header decides.
use Rattle.std.proofs.Common.{◌≡◌, Ok, Err}
use Rattle.jm_packed.specs.Packed.{stream_fault}
use Rattle.jm_packed.proofs.PackedLaws.{stream-decides}
use Rattle.jm_packed.proofs.packed.unpack.Goals as goal

pub returns-in-Ok : goal.returns-in-Ok
returns-in-Ok c =
    stream-decides c.args.order c.args.strings.now c.args.size c.args.stored.now c.split_at.result.1.now c.in_default.ensures
    c.split_at.ensures.back (Ok c.in-Ok.content) (rw c.in-Ok.content-is at c.in-Ok.ensures)

pub returns-in-Err-Fault : goal.returns-in-Err-Fault
returns-in-Err-Fault c =
    let x = c.in-Err-Fault in
    let same : c.stream_fault.result ≡ stream_fault x.fault = rw (← x.fault-is) c.stream_fault.ensures in
    rw same
    (stream-decides c.args.order c.args.strings.now c.args.size c.args.stored.now c.split_at.result.1.now c.in_default.ensures
    c.split_at.ensures.back (Err x.fault) (rw x.field-0-is at x.ensures))
