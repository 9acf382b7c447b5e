use Rattle.std.proofs.Common.{◌∙◌, ◌<◌, All, ap, sym, subst, length}
use Rattle.std.proofs.lemmas.List.{length-map}
use Rattle.jm_pool.specs.Pairs.{IsOrderOf, items_at}
use Rattle.jm_pool.specs.PairView.{pairs_of}
use Rattle.jm_pool.proofs.OrderLaws.{order_once, order_within, items_at-map, differ_in_order}
use Rattle.jm_pool.proofs.pool.Pool.reorder.Goals as goal

pub map_in_order-requires-clause-within : goal.map_in_order-requires-clause-within
map_in_order-requires-clause-within c =
    let seen = ap pairs_of c.in_ok-list.ensures.pairs ∙ c.self.view_is in
    let order = subst (λ l. IsOrderOf (length l) c.args.order.now) (sym seen) c.requires in
    rw c.deref_mut.ensures.value (subst (λ n. All (λ place. place < n) c.args.order.now) (length-map c.in_ok-list.list.items
    (λ e. (e.0.items, e.1.items))) (order_within _ c.args.order.now order))

pub map_in_order-requires-clause-once : goal.map_in_order-requires-clause-once
map_in_order-requires-clause-once c = order_once _ c.args.order.now c.requires

pub map_in_order-requires-clause-differ : goal.map_in_order-requires-clause-differ
map_in_order-requires-clause-differ c =
    let seen = ap pairs_of c.in_ok-list.ensures.pairs ∙ c.self.view_is in
    let order = subst (λ l. IsOrderOf (length l) c.args.order.now) (sym seen) c.requires in
    rw c.deref_mut.ensures.value (differ_in_order c.args.order.now (pairs_of c.in_ok-list.list.items) order c.in_ok-list.ensures.differ)

pub returns : goal.returns
returns c =
    ap pairs_of c.in_ok-pairs.ensures ∙ items_at-map (λ e. (e.0.items, e.1.items)) c.args.order.now c.deref_mut.result.now
    ∙ ap (λ l. items_at c.args.order.now (pairs_of l)) (c.deref_mut.ensures.value ∙ c.in_ok-list.ensures.pairs)
    ∙ ap (items_at c.args.order.now) c.self.view_is
