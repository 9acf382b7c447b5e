use Rattle.std.proofs.Common.{map, ap, ◌∙◌, rules, of_calls}
use Rattle.std.proofs.lemmas.Result.{IfOk-weaker}
use Rattle.std.specs.List.{range_with_len}
use Rattle.jm_pool.specs.Pairs.{items_at}
use Rattle.jm_plugins.specs.Steps.{tests_of}
use Rattle.jm_plugins.proofs.Beside.{below_count, each_told}
use Rattle.jm_plugins.proofs.TurnLaws.{IsTurnAt, all_in_order, in_order, turns_are}
use Rattle.jm_plugins.proofs.order.order.Goals as goal

pub map-requires-clause-callable : goal.map-requires-clause-callable
map-requires-clause-callable g c κs within x there lives ptr same room unit fits =
    below_count _ _ x.now (c.as_slice.ensures ∙ c.in_ok-places.ensures ∙ ap (range_with_len 0) c.len.ensures.len) there

pub reorder-requires : goal.reorder-requires
reorder-requires g c =
    let tests = tests_of c.args.ranking in
    let places = c.as_slice.ensures ∙ c.in_ok-places.ensures ∙ ap (range_with_len 0) c.len.ensures.len in
    let turns = each_told _ _ (IsTurnAt tests c.args.pool) c.as_slice.result.now _ c.in_ok-turns.turns places
    (λ x b says. search (rules, of_calls)) c.in_ok-turns.ensures in
    let order = c.as_slice-3.ensures ∙ c.in_ok-order.ensures ∙ ap (map (λ turn. turn.place)) c.as_slice-2.ensures.value in
    rw order (all_in_order tests c.args.pool c.in_ok-turns.turns c.in_ok-sorted.sorted.items
    (turns_are tests c.args.pool c.in_ok-turns.turns turns) c.in_ok-sorted.ensures)

pub returns : goal.returns
returns g c =
    let tests = tests_of c.args.ranking in
    let places = c.as_slice.ensures ∙ c.in_ok-places.ensures ∙ ap (range_with_len 0) c.len.ensures.len in
    let turns = each_told _ _ (IsTurnAt tests c.args.pool) c.as_slice.result.now _ c.in_ok-turns.turns places
    (λ x b says. search (rules, of_calls)) c.in_ok-turns.ensures in
    let order = c.as_slice-3.ensures ∙ c.in_ok-order.ensures ∙ ap (map (λ turn. turn.place)) c.as_slice-2.ensures.value in
    let whole = ap (λ ks. items_at ks c.args.pool) order ∙ in_order tests c.args.pool c.in_ok-turns.turns
    c.in_ok-sorted.sorted.items (turns_are tests c.args.pool c.in_ok-turns.turns turns) c.in_ok-sorted.ensures in
    IfOk-weaker c.reorder.result _ _ (λ left is. is ∙ whole) c.reorder.ensures
