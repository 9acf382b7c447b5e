use Rattle.std.proofs.Common.{refl}
use Rattle.jm_halves.specs.ComputedPieces.{piece_start}
use Rattle.jm_halves.proofs.run.start_of.Goals as goal

pub returns-clause-start : goal.returns-clause-start
unfolding piece_start
returns-clause-start c = refl
