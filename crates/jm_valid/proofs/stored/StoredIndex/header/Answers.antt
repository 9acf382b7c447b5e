use Rattle.std.proofs.Common.{subst, sym}
use Rattle.jm_form.specs.declared.rows.Compression.TheVariants.{Allowed}
use Rattle.jm_form.specs.Head.{IsFileOf}
use Rattle.jm_valid.specs.Opened.{Front}
use Rattle.jm_valid.proofs.FrontLaws.{index_valid}
use Rattle.jm_valid.proofs.stored.StoredIndex.header.Goals as goal

pub returns-clause-sound : goal.returns-clause-sound
returns-clause-sound c b file =
    let inside = c.self.inside in
    index_valid Allowed inside.buf inside.length b inside.header (subst (λ (v : Front). IsFileOf v.bytes v.length b) (sym c.self.view_is)
    file) c.self.invariant
