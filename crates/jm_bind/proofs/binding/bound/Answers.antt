use Rattle.std.proofs.Common.{◌<◌, length, arith}
use Rattle.std.proofs.lemmas.List.Elements.{All-weaker}
use Rattle.jm_closure.specs.Names.{places_among}
use Rattle.jm_closure.proofs.ClosureLaws.{among_within}
use Rattle.jm_bind.specs.Binding.{ProvidesService, UsesService}
use Rattle.jm_bind.proofs.BoundLaws.{marked_bound}
use Rattle.jm_bind.proofs.NodeLaws.{drawn_within}
use Rattle.jm_bind.proofs.binding.bound.Goals as goal

pub reached-requires-clause-graph : goal.reached-requires-clause-graph
reached-requires-clause-graph c =
    drawn_within c.args.found.now (UsesService c.args.found.now) (ProvidesService c.args.found.now)
    c.in_ok-graph.ensures.0 c.in_ok-graph.graph c.in_ok-graph.ensures.1

pub reached-requires-clause-starts : goal.reached-requires-clause-starts
reached-requires-clause-starts c =
    let size = c.in_ok-graph.ensures.1.size in
    rw (c.as_slice.ensures.value, c.in_ok-starts.ensures)
    (All-weaker (λ node. node < length c.args.found.now) (λ node. node < length c.in_ok-graph.graph)
    (λ node below. omega arith) (places_among c.args.names.now c.args.roots.now)
    (among_within c.args.found.now c.args.names.now c.args.roots.now c.requires.names))

pub returns-clause-exactly : goal.returns-clause-exactly
returns-clause-exactly c = λ i.
    rw c.truncate.ensures.items
    (marked_bound c.args.found.now c.args.names.now c.args.roots.now c.in_ok-graph.ensures.0 c.in_ok-graph.graph
    c.in_ok-flags.flags.items c.requires.names c.in_ok-graph.ensures.1
    (rw (c.as_slice.ensures.value, c.in_ok-starts.ensures) at c.in_ok-flags.ensures.exactly) i)
