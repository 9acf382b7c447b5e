use Rattle.std.proofs.Common.{◌+◌, ◌-◌, ◌*◌}
use Rattle.jm_halves.proofs.map.+map.Given as goal

abbrev pub decreases-map_run : goal.decreases-map_run
decreases-map_run g l = 2 * (l.run.to - l.run.from)

abbrev pub decreases-back : goal.decreases-back
decreases-back g l = 2 * (l.right.to - l.right.from) + 1

abbrev pub decreases-front : goal.decreases-front
decreases-front g l = 2 * (l.left.to - l.left.from) + 1
