use Rattle.std.proofs.Common.{◌≡◌, ◌≤◌, ◌+◌, ◌++◌}
use Rattle.jm_decompress.specs.Decompressed.{stored_size}
use Rattle.jm_decompress.specs.Steps.{AreHeldRead}
use Rattle.jm_decompress.proofs.held.held_resources.Given as goal

abbrev pub invariant-loop-resource : goal.invariant-loop-resource
invariant-loop-resource g l = record {
  can : ((goal.iterator-loop-resource) g).can_next l.resource-iterator;
  ends : ((goal.iterator-loop-resource) g).is_finite l.resource-iterator;
  all : l.yielded ++ l.resource-iterator.rest.items ≡ l.fn.resources;
  files : g.S.Shelf.files l.shelf ≡ g.S.Shelf.files l.fn.shelf;
  count : g.S.Shelf.faults l.shelf ≡ g.S.Shelf.faults l.fn.shelf;
  put : AreHeldRead l.image.index.now (g.S.Shelf.files l.fn.shelf) l.image.path.now l.yielded l.held;
  handed : g.S.Shelf.handed l.shelf ≤ g.S.Shelf.handed l.fn.shelf + stored_size l.yielded;
}
