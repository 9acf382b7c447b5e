use Rattle.std.proofs.Common.{◌≡◌, ◌+◌, ◌≤◌, length}
use Rattle.jm_pattern.specs.MatchingSteps.{Leads, NoLonger, AtRun}
use Rattle.jm_pattern.specs.MatchingCosts.{behind_segment, segment_cost}
use Rattle.jm_pattern.proofs.matching.other_blocks.Given as goal

abbrev pub invariant-loop-behind : goal.invariant-loop-behind
invariant-loop-behind g l = record {
  leads : Leads l.fn.first.signs.now l.fn.first.name.now l.left.signs.now l.left.name.now;
  rests : AtRun l.left.signs.now l.left.name.now;
  shorter : NoLonger l.fn.first.signs.now l.fn.first.name.now l.left.signs.now l.left.name.now;
  end : behind_segment l.left.signs.now ≡ behind_segment l.fn.first.signs.now;
  cost : l.compared + segment_cost 0 l.left.signs.now l.left.name.now ≤ l.fn.compared + segment_cost 0 l.fn.first.signs.now
      l.fn.first.name.now;
}

abbrev pub decreases-loop-behind : goal.decreases-loop-behind
decreases-loop-behind g l = length l.left.signs.now
