use Rattle.std.proofs.Common.{sym}
use Rattle.jm_bytes.proofs.ResultLaws.{passed_on}
use Rattle.jm_texts.specs.DescribeText.{behind_comma}
use Rattle.jm_inspect.proofs.PieceLaws.{line_cut, line_then}
use Rattle.jm_inspect.proofs.described.put_behind_commas.Goals as goal

pub returns-in_err-put_named : goal.returns-in_err-put_named
returns-in_err-put_named g c =
    rw (passed_on c.from_residual.result c.in_err-put_named.field-0.0 c.from_residual.ensures.1)
    (line_cut behind_comma c.args.names.now c.loop-name.name-index c.loop-name-test.true
    (sym c.name-item.is) c.loop-name.invariant
    (rw c.as_slice.ensures at c.in_err-put_named.ensures))

pub loop-name-preserved : goal.loop-name-preserved
loop-name-preserved g c =
    line_then behind_comma c.args.names.now c.loop-name.name-index c.loop-name-test.true
    (sym c.name-item.is) c.loop-name.invariant
    (rw c.as_slice.ensures at c.in_ok-put_named.ensures)
