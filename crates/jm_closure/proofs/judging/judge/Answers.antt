use Rattle.std.proofs.Common.{◌<◌, get_or, length, map}
use Rattle.std.proofs.lemmas.Option.{slice_get-get_or}
use Rattle.jm_closure.specs.Graphs.{IsMarked, OnCycle}
use Rattle.jm_closure.specs.Names.{IsOrder}
use Rattle.jm_closure.proofs.OrderLaws.{order_of}
use Rattle.jm_closure.proofs.RefusalLaws.{acyclic, are_chosen, first_cycle, first_within, graph_within, no_roots}
use Rattle.jm_closure.proofs.judging.judge.Goals as goal

pub returns-in-Some : goal.returns-in-Some
returns-in-Some c =
    rw (c.in_ok-name.ensures, c.in_ok-by.ensures) (no_roots c.args.found.now, c.in-Some.ensures.name, c.in-Some.ensures.by)

pub first_on_cycle-requires-clause-graph : goal.first_on_cycle-requires-clause-graph
first_on_cycle-requires-clause-graph c = graph_within c.args.found.now c.args.graph.now c.requires.graph

pub first_on_cycle-requires-clause-order : goal.first_on_cycle-requires-clause-order
first_on_cycle-requires-clause-order c =
    rw (c.as_slice.ensures.value, c.in_ok-order.ensures.places, c.requires.graph.size)
    (order_of c.args.found.now c.args.names.now c.requires.names c.in_ok-order.ensures.rising).within

pub returns-in-Some-2 : goal.returns-in-Some-2
returns-in-Some-2 c =
    let found = c.args.found.now in
    let order = c.as_slice.result.now in
    let place = c.in-Some-2.place in
    let ordered : IsOrder found order = rw (c.as_slice.ensures.value, c.in_ok-order.ensures.places)
    (order_of found c.args.names.now c.requires.names c.in_ok-order.ensures.rising) in
    let first = rw c.in-Some-2.is at c.in_ok-place.ensures in
    let within = first_within (λ i. IsMarked c.args.chosen.now i × OnCycle c.args.graph.now i) (λ i. i < length found)
    order place first ordered.within in
    rw (c.in_ok-name-2.ensures, c.as_slice-in-Some-2.ensures) (
      no_roots found,
      c.in_default.ensures.none,
      first_cycle found c.args.graph.now order c.args.chosen.now place (get_or found place c.index-found-place.result)
          c.requires.graph ordered first (slice_get-get_or found place c.index-found-place.result within),
    )

pub returns-in-Some-3 : goal.returns-in-Some-3
returns-in-Some-3 c =
    let found = c.args.found.now in
    let order = c.as_slice.result.now in
    let ordered : IsOrder found order = rw (c.as_slice.ensures.value, c.in_ok-order.ensures.places)
    (order_of found c.args.names.now c.requires.names c.in_ok-order.ensures.rising) in
    rw (c.in_ok-package-2.ensures, c.in_ok-first.ensures, c.in_ok-second.ensures) (
      no_roots found,
      c.in_default.ensures.none,
      acyclic found c.args.graph.now order c.args.chosen.now c.requires.graph ordered (rw c.in_default-2.is at c.in_ok-place.ensures),
      rw c.in-Some-3.is at c.in_ok-package.ensures.some,
    )

pub marked_in-requires : goal.marked_in-requires
marked_in-requires c =
    rw (c.as_slice-2.ensures.value, c.in_ok-order.ensures.places, c.requires.chosen)
    (order_of c.args.found.now c.args.names.now c.requires.names c.in_ok-order.ensures.rising).within

pub returns : goal.returns
returns c =
    let found = c.args.found.now in
    let order = c.as_slice.result.now in
    let ordered : IsOrder found order = rw (c.as_slice.ensures.value, c.in_ok-order.ensures.places)
    (order_of found c.args.names.now c.requires.names c.in_ok-order.ensures.rising) in (
      no_roots found,
      c.in_default.ensures.none,
      acyclic found c.args.graph.now order c.args.chosen.now c.requires.graph ordered (rw c.in_default-2.is at c.in_ok-place.ensures),
      rw c.in_default-3.is at c.in_ok-package.ensures.none,
      rw (c.in_ok-marked_in.ensures, c.as_slice-2.ensures.value, c.in_ok-order.ensures.places)
          (are_chosen found (map (λ p. p.1) c.args.names.now) c.args.chosen.now
          (order_of found c.args.names.now c.requires.names c.in_ok-order.ensures.rising) c.requires.chosen),
    )
