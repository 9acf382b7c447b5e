use Rattle.std.proofs.Common.{arith}
use Rattle.jm_form.specs.Rows.{as_stored}
use Rattle.jm_form.proofs.HeadLaws.{header_fits}
use Rattle.jm_reader.proofs.IndexLaws.{lies_within}
use Rattle.jm_reader.proofs.stored.place_of_stored.Goals as goal

pub overflow_add-result : goal.overflow_add-result
overflow_add-result c =
    let f = c.args.index.now.bytes in
    let h = c.header.result in
    let lies = lies_within f c.args.index.now.length h (as_stored c.args.row.now) c.header.ensures.front c.requires in
    let fits = header_fits f h c.header.ensures.front in
    omega (arith, lies, fits, c.header.ensures.within, c.contents_place.ensures, c.length-length.ensures.length)

pub returns-clause-within : goal.returns-clause-within
returns-clause-within c b file =
    let f = c.args.index.now.bytes in
    let h = c.header.result in
    let lies = lies_within f c.args.index.now.length h (as_stored c.args.row.now) c.header.ensures.front c.requires in
    let fits = header_fits f h c.header.ensures.front in
    omega (arith, lies, fits, c.header.ensures.within, c.contents_place.ensures)
