use Rattle.std.proofs.Common.{option_map}
use Rattle.jm_closure.specs.Graphs.{IsMarked}
use Rattle.jm_closure.specs.Holders.{NotedBelow}
use Rattle.jm_closure.specs.Modules.{HasPackage}
use Rattle.jm_closure.proofs.split.least_split.Given as goal

abbrev pub invariant-loop-place : goal.invariant-loop-place
invariant-loop-place l =
    NotedBelow (λ i text. IsMarked l.chosen i × HasPackage l.found i text) l.place l.holders
    (option_map (λ x. x.now) l.least)
