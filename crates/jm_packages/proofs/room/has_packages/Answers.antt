use Rattle.std.proofs.Common.{sym, ◌∙◌}
use Rattle.jm_class.specs.Views.{plain}
use Rattle.jm_packages.proofs.Loops.{one_listed}
use Rattle.jm_packages.proofs.room.has_packages.Goals as goal

pub returns : goal.returns
returns c =
    rw c.as_slice.ensures at
    (c.one_lists.ensures ∙ sym (one_listed (plain c.args.class.now).pool c.as_slice.result.now))
