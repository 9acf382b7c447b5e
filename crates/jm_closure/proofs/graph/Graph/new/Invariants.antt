use Rattle.std.proofs.Common.{◌≡◌, [], map, replicate}
use Rattle.jm_closure.proofs.graph.Graph.new.Given as goal

abbrev pub invariant-loop : goal.invariant-loop
invariant-loop l = map (λ ends. ends.items) l.edges.items ≡ replicate l.counter []
