use Rattle.std.proofs.Common.{◌≡◌, ◌+◌, List, ℕ, drop, length}
use Rattle.jm_closure.specs.Graphs.{unreached, InRound}
use Rattle.jm_closure.proofs.reach.reach_each.Given as goal

abbrev pub invariant-loop-node : goal.invariant-loop-node
invariant-loop-node l = record {
  reaches : (graph : List (List ℕ)) (before starts : List ℕ)
      → InRound graph before starts l.round l.fn.rounds.items l.fn.work.items l.nodes
      → InRound graph before starts l.round l.rounds.items l.work.items (drop l.node-index l.nodes);
  measure : unreached l.rounds.items + length l.work.items
      ≡ unreached l.fn.rounds.items + length l.fn.work.items;
  size : length l.rounds.items ≡ length l.fn.rounds.items;
}
