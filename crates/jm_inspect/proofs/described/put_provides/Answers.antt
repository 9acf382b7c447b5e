use Rattle.std.proofs.Common.{sym}
use Rattle.jm_bytes.proofs.ResultLaws.{passed_on}
use Rattle.jm_texts.specs.DescribeText.{provides_line}
use Rattle.jm_inspect.proofs.PieceLaws.{line_cut, line_then}
use Rattle.jm_inspect.proofs.described.put_provides.Goals as goal

pub returns-in_err-put_provided : goal.returns-in_err-put_provided
returns-in_err-put_provided g c =
    rw (passed_on c.from_residual.result c.in_err-put_provided.field-0.0 c.from_residual.ensures.1)
    (line_cut provides_line c.args.provides.now c.loop-provided.provided-index c.loop-provided-test.true
    (sym c.provided-item.is) c.loop-provided.invariant
    c.in_err-put_provided.ensures)

pub loop-provided-preserved : goal.loop-provided-preserved
loop-provided-preserved g c =
    line_then provides_line c.args.provides.now c.loop-provided.provided-index c.loop-provided-test.true
    (sym c.provided-item.is) c.loop-provided.invariant
    c.in_ok-put_provided.ensures
