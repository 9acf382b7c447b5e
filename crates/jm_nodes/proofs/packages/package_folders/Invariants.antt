use Rattle.std.proofs.Common.{◌≡◌, map, take}
use Rattle.std.specs.List.{filter_map}
use Rattle.jm_nodes.specs.FrontTrees.{folder_of, package_folder}
use Rattle.jm_nodes.proofs.packages.package_folders.Given as goal

abbrev pub invariant-loop-front : goal.invariant-loop-front
invariant-loop-front l = map folder_of l.folders ≡ filter_map package_folder (map (λ front. front.now) (take l.front-index l.fronts))
