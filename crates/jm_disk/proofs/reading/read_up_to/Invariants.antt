use Rattle.std.proofs.Common.{◌≤◌, length}
use Rattle.jm_disk.proofs.reading.read_up_to.Given as goal

abbrev pub invariant-loop : goal.invariant-loop
invariant-loop g l = length l.bytes.items ≤ l.count
