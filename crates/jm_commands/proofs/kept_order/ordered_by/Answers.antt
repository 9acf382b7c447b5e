use Rattle.std.proofs.Common.{◌≡◌, false, sym}
use Rattle.std.specs.List.{list_any}
use Rattle.jm_commands.specs.KeptOrder.{keeps_order}
use Rattle.jm_commands.proofs.KeptOrderLaws.{unordered}
use Rattle.jm_commands.proofs.kept_order.ordered_by.Goals as goal

pub returns-then-not-one_keeps : goal.returns-then-not-one_keeps
returns-then-not-one_keeps g c b file =
    let none : list_any keeps_order c.args.task.plugins ≡ false = sym (rw c.as_slice.ensures at c.if-not-one_keeps.ensures) in
    unordered b c.args.task none
