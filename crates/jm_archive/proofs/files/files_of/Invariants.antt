use Rattle.std.proofs.Common.{◌≡◌, map, take}
use Rattle.jm_archive.specs.Cuts.{file_of}
use Rattle.jm_archive.proofs.files.files_of.Given as goal

abbrev pub invariant-loop-cut : goal.invariant-loop-cut
invariant-loop-cut l = l.files ≡ map file_of (take l.cut-index l.cuts)
