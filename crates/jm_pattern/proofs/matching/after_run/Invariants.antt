use Rattle.std.proofs.Common.{◌∷◌, ◌+◌, ◌≤◌, length}
use Rattle.jm_pattern.specs.MatchingSteps.{Leads}
use Rattle.jm_pattern.specs.MatchingCosts.{segment_cost}
use Rattle.jm_pattern.specs.declared.signs.Sign.TheVariants.{Run}
use Rattle.jm_pattern.proofs.matching.after_run.Given as goal

abbrev pub invariant-loop-left : goal.invariant-loop-left
invariant-loop-left g l = record {
  leads : Leads (Run ∷ l.signs) l.fn.name (Run ∷ l.signs) l.rest;
  shorter : length l.rest ≤ length l.fn.name;
  cost : l.compared + segment_cost 0 (Run ∷ l.signs) l.rest ≤ l.fn.compared + segment_cost 0 (Run ∷ l.signs) l.fn.name;
}

abbrev pub decreases-loop-left : goal.decreases-loop-left
decreases-loop-left g l = length l.rest
