use Rattle.std.proofs.Common.{◌+◌, ◌-◌, ◌*◌}
use Rattle.jm_halves.proofs.search.+search.Given as goal

abbrev pub decreases-first_in_run : goal.decreases-first_in_run
decreases-first_in_run g l = 2 * (l.run.to - l.run.from)

abbrev pub decreases-back : goal.decreases-back
decreases-back g l = 2 * (l.right.to - l.right.from) + 1

abbrev pub decreases-front : goal.decreases-front
decreases-front g l = 2 * (l.left.to - l.left.from) + 1
