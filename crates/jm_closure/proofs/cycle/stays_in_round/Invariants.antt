use Rattle.std.proofs.Common.{◌≡◌, ◌≢◌, ◌<◌, ℕ, length, take, All, Contains}
use Rattle.jm_closure.specs.Graphs.{ends_at, round_of}
use Rattle.jm_closure.proofs.cycle.stays_in_round.Given as goal

abbrev pub invariant-loop-end : goal.invariant-loop-end
invariant-loop-end l = record {
  items : l.end-items ≡ ends_at l.graph l.node;
  within : All (λ end. end < length l.rounds) l.end-items;
  none : (j : ℕ) → Contains (take l.end-index l.end-items) j → round_of l.rounds j ≢ round_of l.rounds l.node;
}
