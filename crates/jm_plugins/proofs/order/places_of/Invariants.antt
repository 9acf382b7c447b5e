use Rattle.std.proofs.Common.{◌≡◌, map, take}
use Rattle.jm_plugins.proofs.order.places_of.Given as goal

abbrev pub invariant-loop-turn : goal.invariant-loop-turn
invariant-loop-turn l = l.places ≡ map (λ turn. turn.place) (take l.turn-index l.turns)
