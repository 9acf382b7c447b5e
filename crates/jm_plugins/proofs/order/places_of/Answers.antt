use Rattle.std.proofs.Common.{map, ap, ◌∙◌, arith}
use Rattle.std.proofs.lemmas.List.{take_all}
use Rattle.jm_plugins.proofs.TurnLaws.{places_more}
use Rattle.jm_plugins.proofs.order.places_of.Goals as goal

pub loop-turn-preserved : goal.loop-turn-preserved
loop-turn-preserved c =
    c.in_ok-push.ensures.ok ∙ places_more c.args.turns.now c.loop-turn.turn-index c.loop-turn.places _ (omega arith) c.loop-turn.invariant

pub returns : goal.returns
returns c = c.loop-turn.invariant ∙ ap (map (λ turn. turn.place)) (take_all c.loop-turn.turn-index c.args.turns.now (omega arith))
