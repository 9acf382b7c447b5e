use Rattle.std.proofs.Common.{◌∙◌, ap}
use Rattle.jm_form.specs.declared.rows.Compression.TheVariants.{Refused}
use Rattle.jm_reader.specs.Listing.{listed_from}
use Rattle.jm_reader.proofs.IndexLaws.{listed_same}
use Rattle.jm_reader.proofs.listing.list.Goals as goal

pub returns-clause-rest : goal.returns-clause-rest
returns-clause-rest c b file =
    ap (λ l. listed_from l c.header.result 0) c.buf.ensures
    ∙ listed_same Refused c.args.index.now.bytes c.args.index.now.length c.header.result c.header.ensures.front c.header.ensures.valid b file
