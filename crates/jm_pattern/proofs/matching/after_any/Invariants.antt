use Rattle.std.proofs.Common.{◌∷◌, ◌+◌, ◌≤◌, length}
use Rattle.jm_pattern.specs.MatchingSteps.{Leads}
use Rattle.jm_pattern.proofs.LineSums.{over_lines}
use Rattle.jm_pattern.proofs.SearchCosts.{line_cost}
use Rattle.jm_pattern.specs.declared.signs.Sign.TheVariants.{AnyRun}
use Rattle.jm_pattern.proofs.matching.after_any.Given as goal

abbrev pub invariant-loop-left : goal.invariant-loop-left
invariant-loop-left g l = record {
  leads : Leads (AnyRun ∷ l.signs) l.fn.name (AnyRun ∷ l.signs) l.rest;
  shorter : length l.rest ≤ length l.fn.name;
  cost : l.compared + over_lines (line_cost l.signs) l.rest ≤ l.fn.compared + over_lines (line_cost l.signs) l.fn.name;
}

abbrev pub decreases-loop-left : goal.decreases-loop-left
decreases-loop-left g l = length l.rest
