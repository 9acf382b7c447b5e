use Rattle.jm_closure.proofs.NameLaws.{IndexesBelow}
use Rattle.jm_closure.proofs.names.names_of.Given as goal

abbrev pub invariant-loop-place : goal.invariant-loop-place
invariant-loop-place l = IndexesBelow l.found l.names l.place
