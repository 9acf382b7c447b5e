use Rattle.std.proofs.Common.{◌≡◌, ◌++◌, nat_eq, drop, length}
use Rattle.std.specs.List.{IsDistinct}
use Rattle.jm_pool.specs.Pairs.{items_at}
use Rattle.jm_pool.proofs.pairs.map_in_order.Given as goal

abbrev pub invariant-loop-n : goal.invariant-loop-n
invariant-loop-n l = record {
  size : length l.list ≡ length l.fn.list;
  once : IsDistinct nat_eq (drop l.n l.order);
  so_far : items_at l.order l.fn.list ≡ l.pairs.entries ++ items_at (drop l.n l.order) l.list;
}
