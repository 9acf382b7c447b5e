use Rattle.std.proofs.Common.{sym}
use Rattle.jm_reader.proofs.ViewLaws.{begins}
use Rattle.jm_reader.proofs.name_view.NameView.begins_with.Goals as goal

pub returns : goal.returns
returns c =
    rw (sym c.bytes.ensures)
    (begins c.bytes.result c.args.front.now c.takes_front.new.bytes c.takes_front.result c.takes_front.ensures.yes c.takes_front.ensures.no)
