use Rattle.jm_valid.proofs.PartLaws.{PartsPut}
use Rattle.jm_valid.proofs.entries.contents_of.Given as goal

abbrev pub invariant-loop-part : goal.invariant-loop-part
invariant-loop-part g l = PartsPut l.sections l.part-items l.part-index l.all
