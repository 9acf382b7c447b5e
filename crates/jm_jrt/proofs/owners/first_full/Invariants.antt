use Rattle.std.proofs.Common.{◌≡◌, ◌≤◌}
use Rattle.jm_jrt.specs.Told.{owners_left}
use Rattle.jm_jrt.specs.Stat.{first_full}
use Rattle.jm_jrt.proofs.owners.first_full.Given as goal

abbrev pub invariant-loop-k : goal.invariant-loop-k
invariant-loop-k g l = record {
  bytes : l.reads.bytes ≡ l.fn.reads.bytes;
  count : l.fn.reads.count ≤ l.reads.count;
  rest : first_full (owners_left l.index.bytes l.content 0) ≡ first_full (owners_left l.index.bytes l.content l.k);
}
