use Rattle.std.proofs.Common.{◌≡◌, ◌++◌, map}
use Rattle.jm_decompress.specs.Steps.{had}
use Rattle.jm_decompress.proofs.contents.put_contents.Given as goal

abbrev pub invariant-loop-one : goal.invariant-loop-one
invariant-loop-one l = record {
  can : (goal.iterator-loop-one).can_next l.one-iterator;
  ends : (goal.iterator-loop-one).is_finite l.one-iterator;
  all : l.yielded ++ l.one-iterator.rest.items ≡ l.fn.had;
  so_far : l.yielded ≡ map had l.pool;
}
