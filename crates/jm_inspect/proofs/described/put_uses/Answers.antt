use Rattle.std.proofs.Common.{sym}
use Rattle.jm_bytes.proofs.ResultLaws.{passed_on}
use Rattle.jm_texts.specs.DescribeText.{uses_line}
use Rattle.jm_inspect.proofs.PieceLaws.{line_cut, line_then}
use Rattle.jm_inspect.proofs.described.put_uses.Goals as goal

pub returns-in_err-put_line : goal.returns-in_err-put_line
returns-in_err-put_line g c =
    rw (passed_on c.from_residual.result c.in_err-put_line.field-0.0 c.from_residual.ensures.1)
    (line_cut uses_line c.args.services.now c.loop-service.service-index c.loop-service-test.true
    (sym c.service-item.is) c.loop-service.invariant
    (rw c.as_slice.ensures at c.in_err-put_line.ensures))

pub loop-service-preserved : goal.loop-service-preserved
loop-service-preserved g c =
    line_then uses_line c.args.services.now c.loop-service.service-index c.loop-service-test.true
    (sym c.service-item.is) c.loop-service.invariant
    (rw c.as_slice.ensures at c.in_ok-put_line.ensures)
