use Rattle.std.proofs.Common.{arith}
use Rattle.jm_bind.specs.Binding.{ProvidesService, UsesService}
use Rattle.jm_bind.proofs.NodeLaws.{drawn_all, drawn_none}
use Rattle.jm_bind.proofs.nodes.graph_of_all.Goals as goal

pub loop-place-init : goal.loop-place-init
loop-place-init c =
    let found = c.args.found.now in
    rw (c.new-services.ensures, c.in_ok-graph.ensures)
    (drawn_none found (UsesService found) (ProvidesService found) c.args.required.now c.requires)

pub returns : goal.returns
returns c =
    let found = c.args.found.now in
    let loop = c.loop-place in
    (loop.services, drawn_all found loop.services loop.graph loop.place (omega arith) loop.invariant)
