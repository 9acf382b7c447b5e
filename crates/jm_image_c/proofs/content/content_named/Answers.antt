use Rattle.std.proofs.Common.{sym, arith}
use Rattle.jm_image_c.proofs.SoughtLaws.{row_placed}
use Rattle.jm_image_c.proofs.content.content_named.Goals as goal

pub overflow_add-result : goal.overflow_add-result
overflow_add-result g c =
    let placed = row_placed c.args.image.now c.header-header.result c.args.name.now c.in-Some.row c.header-header.ensures.header
    c.in-Some.ensures.sound c.in-Some.ensures.content in
    let within = placed.within in
    let start = c.contents_place.ensures in
    let size = rw c.buf.ensures at c.len-size.ensures in
    omega arith

pub returns-in-Some-clause-found : goal.returns-in-Some-clause-found
returns-in-Some-clause-found g c =
    let placed = row_placed c.args.image.now c.header-header.result c.args.name.now c.in-Some.row c.header-header.ensures.header
    c.in-Some.ensures.sound c.in-Some.ensures.content in
    rw c.contents_place.ensures (sym placed.told)

pub returns-in-Some-clause-content : goal.returns-in-Some-clause-content
returns-in-Some-clause-content g c =
    let placed = row_placed c.args.image.now c.header-header.result c.args.name.now c.in-Some.row c.header-header.ensures.header
    c.in-Some.ensures.sound c.in-Some.ensures.content in
    rw (c.contents_place.ensures, c.in-Some.ensures.content) placed.part

pub returns-in-Some-clause-within : goal.returns-in-Some-clause-within
returns-in-Some-clause-within g c =
    let placed = row_placed c.args.image.now c.header-header.result c.args.name.now c.in-Some.row c.header-header.ensures.header
    c.in-Some.ensures.sound c.in-Some.ensures.content in
    let within = placed.within in
    let start = c.contents_place.ensures in
    omega arith
