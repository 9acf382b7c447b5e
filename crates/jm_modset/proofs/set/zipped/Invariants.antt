use Rattle.std.proofs.Common.{◌≡◌, ◌++◌, ℕ, length}
use Rattle.std.specs.List.{zip}
use Rattle.jm_modset.proofs.set.zipped.Given as goal

-- the pairs so far, and those of what is left
abbrev pub invariant-loop-one : goal.invariant-loop-one
invariant-loop-one g l =
    l.pairs ++ zip l.rest.rest.items l.others.rest.items ≡ zip l.fn.first l.fn.second

abbrev pub decreases-loop-one : goal.decreases-loop-one
decreases-loop-one g l = length l.rest.rest.items
