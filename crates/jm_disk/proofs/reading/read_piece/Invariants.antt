use Rattle.std.proofs.Common.{◌≡◌, ◌+◌, length}
use Rattle.jm_disk.proofs.reading.read_piece.Given as goal

abbrev pub invariant-loop : goal.invariant-loop
invariant-loop g l = length l.bytes.items ≡ l.start + l.room
