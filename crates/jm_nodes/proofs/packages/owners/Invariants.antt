use Rattle.std.proofs.Common.{◌≡◌, map, take}
use Rattle.std.specs.List.{flat_map}
use Rattle.jm_nodes.specs.Filings.{filing_of}
use Rattle.jm_nodes.specs.FrontTrees.{owner_alone}
use Rattle.jm_nodes.proofs.packages.owners.Given as goal

abbrev pub invariant-loop-filed : goal.invariant-loop-filed
invariant-loop-filed l = l.list ≡ flat_map (owner_alone (map filing_of l.owned)) (map filing_of (take l.filed-index l.found))
