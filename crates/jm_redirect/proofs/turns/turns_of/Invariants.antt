use Rattle.std.proofs.Common.{◌≡◌, map}
use Rattle.std.specs.List.{range_with_len}
use Rattle.jm_redirect.specs.Turns.{turn_at}
use Rattle.jm_redirect.proofs.turns.turns_of.Given as goal

abbrev pub invariant-loop-place : goal.invariant-loop-place
invariant-loop-place l = l.turns ≡ map (turn_at l.hashes l.slots) (range_with_len 0 l.place)
