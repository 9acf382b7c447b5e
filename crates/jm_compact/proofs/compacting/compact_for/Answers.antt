use Rattle.jm_class.specs.Views.{plain}
use Rattle.jm_class.proofs.ReadingLaws.{bytes_all}
use Rattle.jm_compact.proofs.WholeText.{compacts, compacts_not}
use Rattle.jm_compact.proofs.compacting.compact_for.Goals as goal

pub returns : goal.returns
returns c = compacts c.args.release c.args.bytes.now (plain c.in_ok-class.class) c.in_ok-class.ensures.class
    (bytes_all c.args.bytes.now (λ i. (c.type_inv.bytes i).fits)) c.in_ok-text.text c.in_ok-text.ensures

pub returns-in_err-class : goal.returns-in_err-class
returns-in_err-class c = compacts_not c.args.release c.args.bytes.now c.in_err-class.field-0.0 c.from_residual.result c.in_err-class.ensures
    c.from_residual.ensures.1
