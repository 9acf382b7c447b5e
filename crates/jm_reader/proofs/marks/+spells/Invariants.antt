use Rattle.std.proofs.Common.{length}
use Rattle.jm_reader.proofs.marks.+spells.Given as goal

abbrev pub decreases-spells : goal.decreases-spells
decreases-spells g l = length l.texts.now
