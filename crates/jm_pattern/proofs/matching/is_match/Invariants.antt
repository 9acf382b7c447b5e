use Rattle.std.proofs.Common.{◌+◌, ◌*◌, ◌≤◌, length}
use Rattle.jm_pattern.specs.MatchingSteps.{Leads, AtAny}
use Rattle.jm_pattern.proofs.matching.is_match.Given as goal

abbrev pub invariant-loop-behind : goal.invariant-loop-behind
invariant-loop-behind g l = record {
  leads : Leads l.fn.signs l.fn.name l.left.signs.now l.left.name.now;
  rests : AtAny l.left.signs.now l.left.name.now;
  shorter : length l.left.name.now ≤ length l.fn.name;
  cost : l.compared + length l.left.signs.now * (2 * (length l.fn.name + 1)) ≤ l.fn.compared + length l.fn.signs *
      (2 * (length l.fn.name + 1));
}

abbrev pub decreases-loop-behind : goal.decreases-loop-behind
decreases-loop-behind g l = length l.left.signs.now
