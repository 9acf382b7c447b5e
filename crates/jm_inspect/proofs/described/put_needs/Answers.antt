use Rattle.std.proofs.Common.{sym}
use Rattle.jm_bytes.proofs.ResultLaws.{passed_on}
use Rattle.jm_texts.specs.DescribeText.{need_line}
use Rattle.jm_inspect.proofs.PieceLaws.{line_cut, line_then}
use Rattle.jm_inspect.proofs.described.put_needs.Goals as goal

pub returns-in_err-put_need : goal.returns-in_err-put_need
returns-in_err-put_need g c =
    rw (passed_on c.from_residual.result c.in_err-put_need.field-0.0 c.from_residual.ensures.1)
    (line_cut need_line c.args.needs.now c.loop-need.need-index c.loop-need-test.true
    (sym c.need-item.is) c.loop-need.invariant c.in_err-put_need.ensures)

pub loop-need-preserved : goal.loop-need-preserved
loop-need-preserved g c =
    line_then need_line c.args.needs.now c.loop-need.need-index c.loop-need-test.true
    (sym c.need-item.is) c.loop-need.invariant c.in_ok-put_need.ensures
