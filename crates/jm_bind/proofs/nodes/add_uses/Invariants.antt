use Rattle.std.proofs.Common.{◌≡◌, IfSome, Some, take}
use Rattle.jm_closure.specs.Places.{place_in}
use Rattle.jm_bind.specs.Binding.{ProvidesService, UsesService}
use Rattle.jm_bind.specs.Nodes.{Below, IsDrawn}
use Rattle.jm_bind.proofs.NodeLaws.{With}
use Rattle.jm_bind.proofs.nodes.add_uses.Given as goal

abbrev pub invariant-loop-service : goal.invariant-loop-service
invariant-loop-service l = record {
  drawn : IsDrawn l.found
      (With (Below l.place (UsesService l.found)) l.place (take l.service-index l.service-items))
      (Below l.place (ProvidesService l.found)) l.services l.graph;
  last : IfSome l.last (λ last. place_in l.services last.0.now ≡ Some last.1);
}
