use Rattle.std.proofs.Common.{◌≡◌, length, map}
use Rattle.jm_redirect.specs.Marks.{names_at}
use Rattle.jm_redirect.specs.Reached.{Reached}
use Rattle.jm_redirect.proofs.buckets.give_all.Given as goal

abbrev pub invariant-loop-left : goal.invariant-loop-left
invariant-loop-left l = record {
  room : length l.marked ≡ length l.fn.marked;
  named : map (λ name. name.now) l.left.names.now ≡ names_at l.names l.left.turns.now;
  reached : Reached l.names (length l.fn.redirects) l.taken l.redirects l.left.free l.left.turns.now;
}

abbrev pub decreases-loop-left : goal.decreases-loop-left
decreases-loop-left l = length l.left.turns.now
