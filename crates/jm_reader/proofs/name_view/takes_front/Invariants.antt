use Rattle.std.proofs.Common.{◌≡◌, ◌++◌, take}
use Rattle.jm_reader.proofs.name_view.takes_front.Given as goal

abbrev pub invariant-loop-byte : goal.invariant-loop-byte
invariant-loop-byte l = record {
  next : (goal.iterator-loop-byte).can_next l.bytes;
  finite : (goal.iterator-loop-byte).is_finite l.bytes;
  whole : l.fn.bytes ≡ take l.byte-index l.front ++ l.bytes;
}
