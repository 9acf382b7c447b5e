use Rattle.std.proofs.Common.{length, ◌+◌}
use Rattle.jm_reader.proofs.order.+order_from.Given as goal

abbrev pub decreases-order_from : goal.decreases-order_from
decreases-order_from l = length l.part.now + length l.bytes.now
