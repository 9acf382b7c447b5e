use Rattle.std.proofs.Common.{◌∙◌, ap, not, sym}
use Rattle.std.specs.List.{list_any}
use Rattle.jm_nodes.specs.Filings.{filing_of, Filing}
use Rattle.jm_nodes.proofs.OrderLaws.{any_mapped}
use Rattle.jm_nodes.proofs.children.is_bare.Goals as goal

pub returns : goal.returns
returns c =
    ap not
    (c.has_resource.ensures ∙ sym (any_mapped (λ (f : Filing). not f.mark) filing_of c.filed_under.result.now)
    ∙ ap (list_any (λ (f : Filing). not f.mark)) c.filed_under.ensures)
