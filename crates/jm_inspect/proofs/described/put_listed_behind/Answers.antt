use Rattle.jm_bytes.proofs.ResultLaws.{passed_on}
use Rattle.jm_inspect.proofs.DescribedLaws.{listed_names}
use Rattle.jm_inspect.proofs.PieceLaws.{cut_passed, then_passed}
use Rattle.jm_inspect.proofs.described.put_listed_behind.Goals as goal

pub returns-in_err-put_named : goal.returns-in_err-put_named
returns-in_err-put_named g c =
    let listed = listed_names c.args.word.now c.in-Some.first.now c.in-Some.others.now in
    rw (
      passed_on c.from_residual.result c.in_err-put_named.field-0.0 c.from_residual.ensures.1,
      c.in-Some.ensures.cases.0,
      listed,
    )
    (cut_passed _ (rw c.as_slice.ensures at c.in_err-put_named.ensures))

pub returns : goal.returns
returns g c =
    let listed = listed_names c.args.word.now c.in-Some.first.now c.in-Some.others.now in
    rw (c.in-Some.ensures.cases.0, listed)
    (then_passed (rw c.as_slice.ensures at c.in_ok-put_named.ensures) c.put_behind_commas.ensures)
