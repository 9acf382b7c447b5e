use Rattle.std.proofs.Common.{◌≡◌, map, drop}
use Rattle.std.specs.List.{find}
use Rattle.jm_nodes.specs.Order.{is_among}
use Rattle.jm_nodes.proofs.names.first_front.Given as goal

abbrev pub invariant-loop-front : goal.invariant-loop-front
invariant-loop-front l =
    find (λ name. is_among name (map (λ front. front.now) l.fronts)) (map (λ name. name.now) l.names)
    ≡ find (λ front. is_among front (map (λ name. name.now) l.names)) (map (λ front. front.now) (drop l.front-index l.fronts))
