use Rattle.std.proofs.Common.{◌≡◌, ◌≤◌, ◌+◌, Ok, take}
use Rattle.jm_extract.specs.Filed.{sizes}
use Rattle.jm_inspect.specs.Pieces.{piecewise}
use Rattle.jm_inspect.proofs.DigestLaws.{Passed}
use Rattle.jm_inspect.proofs.digests.put_digests.Given as goal

abbrev pub invariant-loop-entry : goal.invariant-loop-entry
invariant-loop-entry g l = record {
  files : g.S.Shelf.files l.shelf ≡ g.S.Shelf.files l.fn.shelf;
  passed : Passed (g.S.Shelf.files l.fn.shelf) l.path (take l.entry-index l.entries) (Ok tt) (g.S.Shelf.faults l.fn.shelf)
      (g.S.Shelf.faults l.shelf) (piecewise g.O.Sink l.fn.pieces) (piecewise g.O.Sink l.pieces);
  handed : g.S.Shelf.handed l.shelf ≤ g.S.Shelf.handed l.fn.shelf + sizes (take l.entry-index l.entries);
}
