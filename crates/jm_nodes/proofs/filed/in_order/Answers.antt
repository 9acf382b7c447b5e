use Rattle.std.proofs.lemmas.List.Filters.{dedup_is}
use Rattle.jm_nodes.specs.Filings.{filing_of}
use Rattle.jm_nodes.proofs.OrderLaws.{once_rises, once_same}
use Rattle.jm_nodes.proofs.FilingLaws.{filing_exact, filing_total, filed_ties}
use Rattle.jm_nodes.proofs.filed.in_order.Goals as goal

pub returns : goal.returns
returns c =
    let sorted = c.sort.new.self.items in
    rw (c.from_vec.ensures, dedup_is _ _ _ c.dedup.ensures.filtered)
    (record {
      ordered = once_rises filing_total filing_of filed_ties sorted c.in_ok-sort.ensures.sorted;
      same = once_same filing_total filing_of filed_ties filing_exact c.args.filed sorted
          (rw c.into_vec-table.ensures at c.sort.ensures.permutation);
    })
