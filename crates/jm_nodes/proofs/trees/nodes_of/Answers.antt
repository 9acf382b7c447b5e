use Rattle.std.proofs.Common.{rules, ◌≡◌, ap, map, reverse}
use Rattle.jm_nodes.specs.Filings.{filing_of}
use Rattle.jm_nodes.specs.PackagePaths.{called_of}
use Rattle.jm_nodes.proofs.MadeLaws.{made_of}
use Rattle.jm_nodes.proofs.trees.nodes_of.Goals as goal

pub returns : goal.returns
returns c =
    let last : c.from_vec.result ≡ reverse c.in_ok-nodes.nodes = search rules in
    record {
      table = map filing_of c.in_ok-table.table;
      owned = map filing_of c.in_ok-owned.owned;
      children = c.in_ok-table.ensures;
      owners = rw (c.as_slice-2.ensures, c.as_slice-3.ensures, c.in_ok-folders.ensures) at c.in_ok-owned.ensures;
      made = made_of c.from_vec.result c.in_ok-nodes.nodes (map filing_of c.in_ok-table.table) (map filing_of c.as_slice-5.result.now)
          (map filing_of c.in_ok-owned.owned) (map filing_of c.as_slice-6.result.now) (map (λ front. front.now) c.args.fronts.now)
          (map called_of c.args.packages.now) last c.in_ok-nodes.ensures (ap (map filing_of) c.as_slice-5.ensures)
          (ap (map filing_of) c.as_slice-6.ensures) c.requires;
    }
