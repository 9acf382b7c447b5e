use Rattle.std.proofs.Common.{◌∙◌, sym}
use Rattle.jm_class.proofs.ReadingLaws.{bytes_all}
use Rattle.jm_class.proofs.ReleaseLaws.{read_other}
use Rattle.jm_class.proofs.reading.read_for.Goals as goal

pub returns-in-None : goal.returns-in-None
returns-in-None c =
    read_other c.args.release c.args.bytes.now (sym c.release_fault.ensures ∙ c.in-None.is) c.whole.result
    (bytes_all c.args.bytes.now (λ i. (c.type_inv.bytes i).fits)) c.whole.ensures
