use Rattle.std.proofs.Common.{◌≡◌, ◌≢◌, ◌+◌, ◌≤◌, All, length}
use Rattle.jm_pattern.specs.MatchingSteps.{behind_line}
use Rattle.jm_pattern.specs.MatchingCosts.{line_places}
use Rattle.jm_pattern.proofs.matching.behind_slash.Given as goal

abbrev pub invariant-loop-byte : goal.invariant-loop-byte
invariant-loop-byte g l = record {
  same : behind_line l.rest ≡ behind_line l.fn.name;
  shorter : length l.rest ≤ length l.fn.name;
  free : All (λ b. b ≢ 47) l.rest → All (λ b. b ≢ 47) l.fn.name;
  slash : All (λ b. b ≢ 47) l.fn.name → All (λ b. b ≢ 47) l.rest;
  cost : l.compared + line_places l.rest ≤ l.fn.compared + line_places l.fn.name;
}

abbrev pub decreases-loop-byte : goal.decreases-loop-byte
decreases-loop-byte g l = length l.rest
