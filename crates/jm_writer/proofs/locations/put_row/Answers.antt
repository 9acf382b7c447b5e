use Rattle.std.proofs.Common.{length, ap, ◌∙◌, arith, length-append}
use Rattle.jm_form.proofs.ComputedRowsLaws.{row_length}
use Rattle.jm_writer.proofs.locations.put_row.Goals as goal

pub returns-in_ok-extend-in-Some-clause-short : goal.returns-in_ok-extend-in-Some-clause-short
returns-in_ok-extend-in-Some-clause-short c =
    let text = c.in_ok-write_row-in-Some.field-0 in
    let most = row_length text c.row.result c.in_ok-write_row-in-Some.ensures.spells in
    let same = ap length c.as_slice-in-Some.ensures in
    let all = ap length c.in_ok-extend-in-Some.ensures.ok ∙ length-append c.args.text.now.items c.as_slice-in-Some.result.now in
    omega (arith, most, same, all)
