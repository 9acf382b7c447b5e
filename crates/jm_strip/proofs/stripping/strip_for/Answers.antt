use Rattle.std.proofs.Common.{◌∙◌, sym}
use Rattle.jm_class.proofs.ReadingLaws.{bytes_all}
use Rattle.jm_strip.proofs.WholeLaws.{refused_newer, strips_other}
use Rattle.jm_strip.proofs.stripping.strip_for.Goals as goal

pub returns-in-Some : goal.returns-in-Some
returns-in-Some c = refused_newer c.args.release c.args.bytes.now c.in-Some.fault (sym c.release_fault.ensures ∙ c.in-Some.is)

pub returns-in-None : goal.returns-in-None
returns-in-None c =
    strips_other c.args.release c.args.bytes.now (sym c.release_fault.ensures ∙ c.in-None.is) c.whole.result
    (bytes_all c.args.bytes.now (λ i. (c.type_inv.bytes i).fits)) c.whole.ensures
