use Rattle.std.proofs.Common.{◌≡◌, map, take}
use Rattle.jm_redirect.specs.Marks.{names_at}
use Rattle.jm_redirect.proofs.buckets.names_in_turn.Given as goal

abbrev pub invariant-loop-turn : goal.invariant-loop-turn
invariant-loop-turn l = map (λ name. name.now) l.found ≡ names_at l.names (take l.turn-index l.turns)
