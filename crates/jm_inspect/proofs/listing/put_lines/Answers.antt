use Rattle.std.proofs.Common.{sym}
use Rattle.jm_bytes.proofs.ResultLaws.{passed_on}
use Rattle.jm_inspect.specs.ListText.{sized_as, sized_line}
use Rattle.jm_inspect.proofs.PieceLaws.{line_cut, line_then}
use Rattle.jm_inspect.proofs.listing.put_lines.Goals as goal

pub returns-in_err-put_line : goal.returns-in_err-put_line
returns-in_err-put_line g c =
    rw (passed_on c.from_residual.result c.in_err-put_line.field-0.0 c.from_residual.ensures.1)
    (line_cut (λ t. sized_line (sized_as t)) c.args.entries.now c.loop-entry.entry-index c.loop-entry-test.true
    (sym c.entry-item.is) c.loop-entry.invariant c.in_err-put_line.ensures)

pub loop-entry-preserved : goal.loop-entry-preserved
loop-entry-preserved g c =
    line_then (λ t. sized_line (sized_as t)) c.args.entries.now c.loop-entry.entry-index c.loop-entry-test.true
    (sym c.entry-item.is) c.loop-entry.invariant c.in_ok-put_line.ensures
