use Rattle.std.proofs.Common.{sym}
use Rattle.jm_bytes.proofs.ResultLaws.{passed_on}
use Rattle.jm_texts.specs.DescribeText.{opened_line}
use Rattle.jm_inspect.proofs.PieceLaws.{line_cut, line_then}
use Rattle.jm_inspect.proofs.described.put_packages.Goals as goal

pub returns-in_err-put_package : goal.returns-in_err-put_package
returns-in_err-put_package g c =
    rw (passed_on c.from_residual.result c.in_err-put_package.field-0.0 c.from_residual.ensures.1)
    (line_cut (opened_line c.args.word.now) c.args.packages.now c.loop-opened.opened-index c.loop-opened-test.true
    (sym c.opened-item.is) c.loop-opened.invariant
    c.in_err-put_package.ensures)

pub loop-opened-preserved : goal.loop-opened-preserved
loop-opened-preserved g c =
    line_then (opened_line c.args.word.now) c.args.packages.now c.loop-opened.opened-index c.loop-opened-test.true
    (sym c.opened-item.is) c.loop-opened.invariant
    c.in_ok-put_package.ensures
