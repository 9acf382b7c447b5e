use Rattle.std.proofs.Common.{map, take}
use Rattle.std.specs.List.{flat_map}
use Rattle.jm_form.specs.Trees.{fronts}
use Rattle.jm_nodes.specs.Order.{SameElements}
use Rattle.jm_nodes.proofs.fronts.all_fronts.Given as goal

abbrev pub invariant-loop-place : goal.invariant-loop-place
invariant-loop-place l = SameElements (flat_map fronts (take l.place (map (λ name. name.now) l.names))) (map (λ front. front.now) l.list)
