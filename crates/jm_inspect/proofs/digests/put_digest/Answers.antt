use Rattle.std.proofs.Common.{Ok, Err, [], ◌∷◌, refl}
use Rattle.jm_inspect.specs.Pieces.{piecewise}
use Rattle.jm_inspect.specs.Stops.{stop_of_shelf, stop_of_sink}
use Rattle.jm_inspect.proofs.DigestLaws.{line_read, unread}
use Rattle.jm_inspect.proofs.StepLaws.{from_stop}
use Rattle.jm_inspect.proofs.digests.put_digest.Goals as goal

pub returns-in_err-read_extent-clause-puts : goal.returns-in_err-read_extent-clause-puts
returns-in_err-read_extent-clause-puts g c =
    let error = c.in_err-read_extent.field-0.0 in
    rw (from_stop c.from_residual.result (stop_of_shelf error) c.from_residual.ensures.1)
    (unread _ _ (c.args.entry.now ∷ []) error _ _ (piecewise g.O.Sink c.args.pieces.now) c.in_err-read_extent.ensures.faults)

pub returns-in_err-put_digest_line-clause-puts : goal.returns-in_err-put_digest_line-clause-puts
returns-in_err-put_digest_line-clause-puts g c =
    let error = c.in_err-put_digest_line.field-0.0 in
    let read = c.in_ok-read_extent.ensures in
    rw (from_stop c.from_residual-in_err-put_digest_line.result (stop_of_sink error) c.from_residual-in_err-put_digest_line.ensures.1)
    (line_read _ _ c.args.entry.now c.read_extent.new.text (Err error) _ _ _ _ read.read
    (rw c.as_slice.ensures at c.in_err-put_digest_line.ensures) (read.faults.kept refl))

pub returns-clause-puts : goal.returns-clause-puts
returns-clause-puts g c =
    let read = c.in_ok-read_extent.ensures in
    line_read _ _ c.args.entry.now c.read_extent.new.text (Ok tt) _ _ _ _ read.read
    (rw c.as_slice.ensures at c.in_ok-put_digest_line.ensures) (read.faults.kept refl)
