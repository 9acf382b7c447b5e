use Rattle.jm_form.specs.declared.rows.Compression.TheVariants.{Allowed}
use Rattle.jm_valid.proofs.FrontLaws.{index_valid}
use Rattle.jm_valid.proofs.stored.StoredIndex.open.Goals as goal

pub returns-clause-sound : goal.returns-clause-sound
returns-clause-sound g c b file =
    let h = c.in_ok-header.header in
    (h, index_valid Allowed c.args.front.now c.args.length b h file c.in_ok-header.ensures.index)
