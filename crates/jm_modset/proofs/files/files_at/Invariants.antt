use Rattle.std.proofs.Common.{take}
use Rattle.jm_modset.specs.Files.{AreTakenAt}
use Rattle.jm_modset.proofs.files.files_at.Given as goal

abbrev pub invariant-loop-place : goal.invariant-loop-place
invariant-loop-place l = AreTakenAt l.set (take l.place-index l.places) l.files
