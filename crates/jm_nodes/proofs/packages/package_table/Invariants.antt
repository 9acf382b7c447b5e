use Rattle.std.proofs.Common.{◌≡◌, map, take}
use Rattle.jm_nodes.specs.Filings.{filing_of}
use Rattle.jm_nodes.specs.FrontTrees.{folder_of, package_filings}
use Rattle.jm_nodes.proofs.packages.package_table.Given as goal

abbrev pub invariant-loop-place : goal.invariant-loop-place
invariant-loop-place l = map filing_of l.list ≡ package_filings (map filing_of l.table) (map folder_of (take l.place l.folders))
