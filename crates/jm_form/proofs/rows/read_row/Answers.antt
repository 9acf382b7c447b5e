use Rattle.std.proofs.Common.{sym, ap, arith, option_map}
use Rattle.jm_form.proofs.ComputedRowsLaws.{nothing_spelled, rest_spelled, rest_shorter, with_length}
use Rattle.jm_form.proofs.rows.read_row.Goals as goal

pub returns-in_err-row-clause-none : goal.returns-in_err-row-clause-none
returns-in_err-row-clause-none c =
    rw c.from_residual.ensures (nothing_spelled c.args.bytes.now
    (sym (ap (option_map (with_length c.args.bytes.now)) c.in_err-row.ensures)))

pub overflow_sub-result : goal.overflow_sub-result
overflow_sub-result c =
    let shorter = rest_shorter c.args.bytes.now c.in_ok-row.row c.in_ok-row.rest.now (sym c.in_ok-row.ensures) in
    omega arith

pub returns-clause-within : goal.returns-clause-within
returns-clause-within c =
    let spelled = rest_spelled c.args.bytes.now c.in_ok-row.row c.in_ok-row.rest.now (sym c.in_ok-row.ensures) in
    (spelled.some, spelled.within)

pub returns-clause-found : goal.returns-clause-found
returns-clause-found c = (rest_spelled c.args.bytes.now c.in_ok-row.row c.in_ok-row.rest.now (sym c.in_ok-row.ensures)).spells
