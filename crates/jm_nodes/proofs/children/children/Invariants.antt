use Rattle.std.proofs.Common.{◌≡◌, map, take}
use Rattle.jm_nodes.specs.Filings.{filing_of}
use Rattle.jm_nodes.specs.FrontTrees.{entry_of}
use Rattle.jm_nodes.proofs.children.children.Given as goal

abbrev pub invariant-loop-child : goal.invariant-loop-child
invariant-loop-child l = l.names ≡ map entry_of (map filing_of (take l.child-index l.found))
