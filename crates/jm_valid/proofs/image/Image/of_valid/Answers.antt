use Rattle.std.proofs.Common.{sym}
use Rattle.jm_valid.proofs.FrontLaws.{whole_index_of}
use Rattle.jm_valid.proofs.image.Image.of_valid.Goals as goal

pub checked-requires : goal.checked-requires
checked-requires c = whole_index_of c.args.bytes.now c.in-Ok.header c.requires (sym c.in-Ok.ensures)
