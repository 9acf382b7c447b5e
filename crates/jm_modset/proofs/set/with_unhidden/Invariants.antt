use Rattle.std.proofs.Common.{◌≡◌, List}
use Rattle.jm_closure.specs.declared.candidate.Candidate.{Candidate}
use Rattle.jm_closure.specs.Names.{Indexes}
use Rattle.jm_modset.specs.Set.{with_unhidden}
use Rattle.jm_modset.proofs.set.with_unhidden.Given as goal

abbrev pub invariant-loop-candidate : goal.invariant-loop-candidate
invariant-loop-candidate l = (image : List Candidate) → Indexes image l.fn.names
    → l.all ≡ with_unhidden image l.fn.set l.yielded
