use Rattle.std.proofs.Common.{◌≡◌, ◌+◌, ◌*◌, ◌≤◌, length}
use Rattle.jm_form.specs.Greedy.{first_table, greedy_among}
use Rattle.jm_redirect.proofs.LengthLaws.{lengths_left}
use Rattle.jm_redirect.proofs.building.build.Given as goal

abbrev pub invariant-loop-tried : goal.invariant-loop-tried
invariant-loop-tried l = record {
  enough : length l.names ≤ l.length;
  few : l.length ≤ length l.names + 2 * l._tried;
  left : first_table l.names ≡ greedy_among l.names (lengths_left l._tried l.length);
}
