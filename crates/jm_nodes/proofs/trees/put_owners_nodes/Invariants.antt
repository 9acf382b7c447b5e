use Rattle.std.proofs.Common.{◌≡◌, ◌++◌, map, take}
use Rattle.jm_nodes.specs.Filings.{filing_of}
use Rattle.jm_nodes.specs.FrontTrees.{owners_node}
use Rattle.jm_nodes.specs.PackagePaths.{called_of}
use Rattle.jm_nodes.proofs.trees.put_owners_nodes.Given as goal

abbrev pub invariant-loop-folder : goal.invariant-loop-folder
invariant-loop-folder l =
    l.nodes ≡ l.fn.nodes ++ map (owners_node (map filing_of l.owned)) (map called_of (take l.folder-index l.packages))
