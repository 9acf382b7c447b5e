use Rattle.std.proofs.Common.{◌≡◌, ◌≤◌}
use Rattle.std.specs.List.{list_any}
use Rattle.std.specs.Str.{bytes_eq}
use Rattle.jm_jrt.specs.Told.{owners_left}
use Rattle.jm_jrt.proofs.owners.find_owner.Given as goal

abbrev pub invariant-loop-k : goal.invariant-loop-k
invariant-loop-k g l = record {
  bytes : l.reads.bytes ≡ l.fn.reads.bytes;
  count : l.fn.reads.count ≤ l.reads.count;
  rest : list_any (λ o. bytes_eq l.asked o.module) (owners_left l.index.bytes l.content 0) ≡ list_any (λ o. bytes_eq l.asked o.module)
      (owners_left l.index.bytes l.content l.k);
}
