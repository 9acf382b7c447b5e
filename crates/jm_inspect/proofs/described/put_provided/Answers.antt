use Rattle.jm_bytes.proofs.ResultLaws.{passed_on}
use Rattle.jm_inspect.proofs.PieceLaws.{cut_passed, then_passed}
use Rattle.jm_inspect.proofs.described.put_provided.Goals as goal

pub returns-in_err-put_named : goal.returns-in_err-put_named
returns-in_err-put_named g c =
    rw (passed_on c.from_residual.result c.in_err-put_named.field-0.0 c.from_residual.ensures.1)
    (cut_passed _ (cut_passed _ (cut_passed _ (rw c.as_slice.ensures at c.in_err-put_named.ensures))))

pub returns-in_err-hold : goal.returns-in_err-hold
returns-in_err-hold g c =
    let name = rw c.as_slice.ensures at c.in_ok-put_named.ensures in
    rw (passed_on c.from_residual-in_err-hold.result c.in_err-hold.field-0.0 c.from_residual-in_err-hold.ensures.1)
    (cut_passed _ (cut_passed _ (then_passed name c.in_err-hold.ensures)))

pub returns-in_err-put_listed_behind : goal.returns-in_err-put_listed_behind
returns-in_err-put_listed_behind g c =
    let name = rw c.as_slice.ensures at c.in_ok-put_named.ensures in
    let word = then_passed name c.in_ok-hold.ensures in
    rw (passed_on c.from_residual-in_err-put_listed_behind.result c.in_err-put_listed_behind.field-0.0
    c.from_residual-in_err-put_listed_behind.ensures.1)
    (cut_passed _ (then_passed word (rw c.as_slice-2.ensures at c.in_err-put_listed_behind.ensures)))

pub returns : goal.returns
returns g c =
    let name = rw c.as_slice.ensures at c.in_ok-put_named.ensures in
    let word = then_passed name c.in_ok-hold.ensures in
    let classes = then_passed word (rw c.as_slice-2.ensures at c.in_ok-put_listed_behind.ensures) in
    then_passed classes c.hold-2.ensures
