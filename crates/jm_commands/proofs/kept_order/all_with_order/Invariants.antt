use Rattle.std.proofs.Common.{◌≡◌, map}
use Rattle.jm_commands.specs.KeptOrder.{with_order}
use Rattle.jm_commands.proofs.kept_order.all_with_order.Given as goal

abbrev pub invariant-loop-plugin : goal.invariant-loop-plugin
invariant-loop-plugin l = l.ordered ≡ map (with_order l.names) l.yielded
