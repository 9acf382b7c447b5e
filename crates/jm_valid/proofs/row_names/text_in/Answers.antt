use Rattle.std.proofs.Common.{sym}
use Rattle.jm_valid.proofs.PassageLaws.{text_none}
use Rattle.jm_valid.proofs.row_names.text_in.Goals as goal

pub returns-in-None : goal.returns-in-None
returns-in-None c = text_none c.args.bytes.now (sym c.in-None.ensures.ends)
