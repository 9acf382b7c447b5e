use Rattle.std.proofs.Common.{◌∙◌}
use Rattle.jm_nodes.specs.Filings.{filing_of}
use Rattle.jm_nodes.proofs.OrderLaws.{searched}
use Rattle.jm_nodes.proofs.FilingLaws.{filing_total}
use Rattle.jm_nodes.proofs.filed.is_filed.Goals as goal

pub returns : goal.returns
returns c =
    c.is_ok.ensures.value
    ∙ searched filing_total filing_of c.args.table.now (filing_of c.args.filed.now) c.binary_search.result
    c.binary_search.ensures.bound c.binary_search.ensures.position c.requires
