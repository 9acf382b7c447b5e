use Rattle.std.proofs.Common.{All, take}
use Rattle.jm_plugins.proofs.PackagingLaws.{StaysListed}
use Rattle.jm_plugins.proofs.packages.all_stay.Given as goal

abbrev pub invariant-loop-place : goal.invariant-loop-place
invariant-loop-place l = All (StaysListed l.release) (take l.place l.pool)
