use Rattle.std.proofs.Common.{◌≡◌, ◌++◌, map, take}
use Rattle.jm_nodes.specs.Filings.{filing_of}
use Rattle.jm_nodes.specs.FrontTrees.{child_filing}
use Rattle.jm_nodes.proofs.children.put_children.Given as goal

abbrev pub invariant-loop-name : goal.invariant-loop-name
invariant-loop-name l =
    map filing_of l.list ≡ map filing_of l.fn.list ++ map (child_filing l.are_folders) (map (λ name. name.now) (take l.name-index l.names))
