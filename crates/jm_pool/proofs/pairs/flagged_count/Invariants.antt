use Rattle.std.proofs.Common.{◌≡◌, ◌++◌, ◌≤◌, take, drop, length}
use Rattle.jm_pool.specs.Pairs.{flagged_items}
use Rattle.jm_pool.proofs.pairs.flagged_count.Given as goal

abbrev pub invariant-loop-place : goal.invariant-loop-place
invariant-loop-place l = record {
  before : l.front ≤ l.place;
  size : length l.keep ≡ length l.pairs.entries;
  so_far : flagged_items l.keep l.fn.pairs.entries ≡ take l.front l.pairs.entries ++ flagged_items (drop l.place l.keep)
      (drop l.place l.pairs.entries);
}
