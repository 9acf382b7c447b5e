use Rattle.std.proofs.Common.{arith}
use Rattle.jm_image_c.proofs.SoughtLaws.{row_within}
use Rattle.jm_image_c.proofs.entry.entry_places.Goals as goal

pub returns-clause-within : goal.returns-clause-within
returns-clause-within c =
    let within = row_within c.args.image.now c.header.result c.args.row.now c.header.ensures.header c.requires in
    let start = c.contents_place.ensures in
    omega arith
