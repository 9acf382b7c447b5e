use Rattle.jm_bytes.proofs.ResultLaws.{passed_on}
use Rattle.jm_inspect.proofs.PieceLaws.{cut_passed, then_passed}
use Rattle.jm_inspect.proofs.described.put_line.Goals as goal

pub returns-in_err-put_named : goal.returns-in_err-put_named
returns-in_err-put_named g c =
    rw (passed_on c.from_residual.result c.in_err-put_named.field-0.0 c.from_residual.ensures.1)
    (cut_passed _ c.in_err-put_named.ensures)

pub returns : goal.returns
returns g c = then_passed c.in_ok-put_named.ensures c.hold.ensures
