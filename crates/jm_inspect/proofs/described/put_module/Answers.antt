use Rattle.jm_bytes.proofs.ResultLaws.{passed_on}
use Rattle.jm_inspect.proofs.PieceLaws.{cut_passed, then_passed}
use Rattle.jm_inspect.proofs.described.put_module.Goals as goal

pub returns-in_err-put_named : goal.returns-in_err-put_named
returns-in_err-put_named g c =
    rw (passed_on c.from_residual.result c.in_err-put_named.field-0.0 c.from_residual.ensures.1)
    (cut_passed _ (cut_passed _ (rw (c.module_word.ensures, c.as_slice.ensures) at c.in_err-put_named.ensures)))

pub returns-in_err-put_version : goal.returns-in_err-put_version
returns-in_err-put_version g c =
    let name = rw (c.module_word.ensures, c.as_slice.ensures) at c.in_ok-put_named.ensures in
    rw (passed_on c.from_residual-in_err-put_version.result c.in_err-put_version.field-0.0
    c.from_residual-in_err-put_version.ensures.1)
    (cut_passed _ (then_passed name c.in_err-put_version.ensures))

pub returns : goal.returns
returns g c =
    let name = rw (c.module_word.ensures, c.as_slice.ensures) at c.in_ok-put_named.ensures in
    let version = then_passed name c.in_ok-put_version.ensures in
    then_passed version c.hold.ensures
