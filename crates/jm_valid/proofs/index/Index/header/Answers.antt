use Rattle.std.proofs.Common.{subst, sym}
use Rattle.jm_form.specs.declared.rows.Compression.TheVariants.{Refused}
use Rattle.jm_form.specs.Head.{IsFileOf}
use Rattle.jm_valid.specs.Opened.{Front}
use Rattle.jm_valid.proofs.FrontLaws.{index_valid}
use Rattle.jm_valid.proofs.index.Index.header.Goals as goal

pub returns-clause-valid : goal.returns-clause-valid
returns-clause-valid c b file =
    let inside = c.self.inside in
    index_valid Refused inside.buf inside.length b inside.header (subst (λ (v : Front). IsFileOf v.bytes v.length b) (sym c.self.view_is)
    file) c.self.invariant
