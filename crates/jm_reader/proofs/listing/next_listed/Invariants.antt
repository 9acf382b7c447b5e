use Rattle.std.proofs.Common.{◌≡◌, ◌≤◌}
use Rattle.jm_reader.specs.Listing.{listed_from}
use Rattle.jm_reader.proofs.listing.next_listed.Given as goal

abbrev pub invariant-loop-slot : goal.invariant-loop-slot
invariant-loop-slot g l = record {
  bytes : l.reads.bytes ≡ l.fn.reads.bytes;
  count : l.fn.reads.count ≤ l.reads.count;
  rest : listed_from l.buf l.header l.start ≡ listed_from l.buf l.header l.slot;
}
