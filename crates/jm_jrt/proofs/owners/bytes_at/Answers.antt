use Rattle.std.proofs.Common.{◌+◌, arith}
use Rattle.jm_form.proofs.HeadLaws.{header_fits}
use Rattle.jm_jrt.proofs.EndLaws.{part_taken, strings_left}
use Rattle.jm_jrt.proofs.owners.bytes_at.Goals as goal

pub returns-then-len-header-clause-none : goal.returns-then-len-header-clause-none
returns-then-len-header-clause-none g c =
    omega (arith, strings_left c.args.index.now.bytes c.header-header.result c.args.place c.header-header.ensures.front)

pub part-requires-clause-inside : goal.part-requires-clause-inside
part-requires-clause-inside g c =
    let fits = header_fits c.args.index.now.bytes c.header-header.result c.header-header.ensures.front in
    rw c.buf-buf.ensures (omega arith)

pub returns-clause-part : goal.returns-clause-part
returns-clause-part g c =
    part_taken c.args.index.now.bytes c.header-header.result c.args.place (c.args.len + 1) c.part.result.now c.header-header.ensures.front
    (omega arith) (rw (c.strings_place.ensures, c.buf-buf.ensures) at c.part.ensures.part)
