use Rattle.std.proofs.Common.{◌≡◌, ◌++◌, map, take}
use Rattle.jm_nodes.specs.Filings.{filing_of}
use Rattle.jm_nodes.specs.FrontTrees.{front_node}
use Rattle.jm_nodes.proofs.trees.put_front_nodes.Given as goal

abbrev pub invariant-loop-front : goal.invariant-loop-front
invariant-loop-front l =
    l.nodes ≡ l.fn.nodes ++ map (front_node (map filing_of l.table)) (map (λ front. front.now) (take l.front-index l.fronts))
