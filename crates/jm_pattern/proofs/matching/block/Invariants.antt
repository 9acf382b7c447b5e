use Rattle.std.proofs.Common.{◌≡◌, ◌+◌, ◌≤◌, length}
use Rattle.jm_pattern.specs.MatchingSteps.{Leads, NoLonger}
use Rattle.jm_pattern.specs.MatchingCosts.{line_places, block_length, behind_segment, segment_cost}
use Rattle.jm_pattern.proofs.matching.block.Given as goal

abbrev pub invariant-loop-left : goal.invariant-loop-left
invariant-loop-left g l = record {
  leads : Leads l.fn.signs l.fn.name l.left.signs.now l.left.name.now;
  shorter : NoLonger l.fn.signs l.fn.name l.left.signs.now l.left.name.now;
  end : behind_segment l.left.signs.now ≡ behind_segment l.fn.signs;
  block : l.compared + block_length l.left.signs.now ≤ l.fn.compared + block_length l.fn.signs;
  cost : l.compared + segment_cost (line_places l.fn.name) l.left.signs.now l.left.name.now ≤ l.fn.compared
      + segment_cost (line_places l.fn.name) l.fn.signs l.fn.name;
}

abbrev pub decreases-loop-left : goal.decreases-loop-left
decreases-loop-left g l = length l.left.signs.now
