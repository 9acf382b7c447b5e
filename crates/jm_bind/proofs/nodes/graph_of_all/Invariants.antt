use Rattle.jm_bind.specs.Binding.{ProvidesService, UsesService}
use Rattle.jm_bind.specs.Nodes.{Below, IsDrawn}
use Rattle.jm_bind.proofs.nodes.graph_of_all.Given as goal

abbrev pub invariant-loop-place : goal.invariant-loop-place
invariant-loop-place l =
    IsDrawn l.found (Below l.place (UsesService l.found)) (Below l.place (ProvidesService l.found))
    l.services l.graph
