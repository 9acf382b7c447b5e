use Rattle.std.proofs.Common.{◌≡◌, map, take}
use Rattle.jm_form.specs.Trees.{package_node}
use Rattle.jm_nodes.specs.PackagePaths.{called_of}
use Rattle.jm_nodes.proofs.trees.packages_node.Given as goal

abbrev pub invariant-loop-folder : goal.invariant-loop-folder
invariant-loop-folder l = l.names ≡ map package_node (map called_of (take l.folder-index l.packages))
