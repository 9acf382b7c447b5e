use Rattle.std.proofs.Common.{◌≡◌, ◌≤◌, ◌-◌, ◌++◌, map}
use Rattle.jm_nodes.specs.Fronts.{fronts_between}
use Rattle.jm_nodes.proofs.fronts.put_fronts.Given as goal

abbrev pub invariant-loop-at : goal.invariant-loop-at
invariant-loop-at l =
    (l.start ≤ l.at) × (map (λ front. front.now) l.list ≡ map (λ front. front.now) l.fn.list ++ fronts_between l.start
    (l.at - l.start) l.name)
