use Rattle.std.proofs.Common.{◌≡◌, ◌+◌, IfSome, Some, map, take}
use Rattle.jm_closure.specs.Places.{place_in}
use Rattle.jm_bind.specs.Binding.{ProvidesService, UsesService}
use Rattle.jm_bind.specs.Nodes.{Below, IsDrawn}
use Rattle.jm_bind.proofs.NodeLaws.{With}
use Rattle.jm_bind.proofs.nodes.add_provides.Given as goal

abbrev pub invariant-loop-provided : goal.invariant-loop-provided
invariant-loop-provided l = record {
  drawn : IsDrawn l.found (Below (l.place + 1) (UsesService l.found))
      (With (Below l.place (ProvidesService l.found)) l.place
      (map (λ provided. provided.service) (take l.provided-index l.provided-items)))
      l.services l.graph;
  last : IfSome l.last (λ last. place_in l.services last.0.now ≡ Some last.1);
}
