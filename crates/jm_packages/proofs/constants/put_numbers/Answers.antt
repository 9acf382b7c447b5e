use Rattle.std.proofs.Common.{◌+◌, ◌++◌}
use Rattle.jm_modinfo.specs.Written.{numbers_text}
use Rattle.jm_packages.proofs.Loops.{numbers-next}
use Rattle.jm_packages.proofs.constants.put_numbers.Goals as goal

pub loop-k-preserved : goal.loop-k-preserved
loop-k-preserved c =
    numbers-next (c.args.below + 2) c.args.count c.loop-k.k c.loop-k-test.true c.loop-k.text.items c.put16.new.text.items
    (c.args.text.now.items ++ numbers_text (c.args.below + 2) c.args.count) c.loop-k.invariant c.in_ok-put16.ensures
