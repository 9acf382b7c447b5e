use Rattle.std.proofs.Common.{◌≡◌, map, take}
use Rattle.jm_nodes.specs.FrontTrees.{called_all, folders_among}
use Rattle.jm_nodes.specs.PackagePaths.{called_of}
use Rattle.jm_nodes.proofs.packages.packages.Given as goal

abbrev pub invariant-loop-front : goal.invariant-loop-front
invariant-loop-front l =
    map called_of l.packages ≡ called_all (folders_among (map (λ front. front.now) (take l.front-index l.fronts)))
