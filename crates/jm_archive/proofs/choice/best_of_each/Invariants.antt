use Rattle.std.proofs.Common.{◌+◌, map, take}
use Rattle.jm_archive.specs.Cuts.{candidate_of}
use Rattle.jm_archive.proofs.BestLaws.{SoFar}
use Rattle.jm_archive.proofs.choice.best_of_each.Given as goal

abbrev pub invariant-loop-cut : goal.invariant-loop-cut
invariant-loop-cut l =
    SoFar (map candidate_of (take (l.cut-index + 1) l.cuts)) (map candidate_of l.best) (candidate_of l.last)
