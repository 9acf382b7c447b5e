use Rattle.jm_form.specs.declared.rows.Compression.TheVariants.{Refused}
use Rattle.jm_valid.proofs.FrontLaws.{index_valid}
use Rattle.jm_valid.proofs.index.Index.open.Goals as goal

pub returns-clause-valid : goal.returns-clause-valid
returns-clause-valid g c b file =
    let h = c.in_ok-header.header in
    (h, index_valid Refused c.args.front.now c.args.length b h file c.in_ok-header.ensures.index)
