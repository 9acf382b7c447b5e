use Rattle.std.proofs.Common.{sym}
use Rattle.jm_reader.proofs.ViewLaws.{joined_marks}
use Rattle.jm_reader.proofs.name_bytes.NameBytes.of.Goals as goal

pub returns : goal.returns
returns c =
    rw (c.mark.ensures, c.mark-2.ensures, c.mark-3.ensures, c.mark-4.ensures)
    (sym (joined_marks c.args.pieces.now.module.now c.args.pieces.now.parent.now c.args.pieces.now.base.now c.args.pieces.now.ext.now))
