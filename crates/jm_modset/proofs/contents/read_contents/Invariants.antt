use Rattle.std.proofs.Common.{◌≡◌, ◌≤◌, ◌+◌, ◌++◌, All, IsTrue}
use Rattle.jm_outside.specs.Files.{Files}
use Rattle.jm_modset.specs.Parts.{AreReadAs, IsSizedBy, read_sizes}
use Rattle.jm_modset.proofs.contents.read_contents.Given as goal

abbrev pub invariant-loop-file : goal.invariant-loop-file
invariant-loop-file g l = record {
  can : ((goal.iterator-loop-file) g).can_next l.file-iterator;
  ends : ((goal.iterator-loop-file) g).is_finite l.file-iterator;
  all : l.yielded ++ l.file-iterator.rest.items ≡ l.fn.files;
  files : g.S.Shelf.files l.shelf ≡ g.S.Shelf.files l.fn.shelf;
  count : g.S.Shelf.faults l.shelf ≡ g.S.Shelf.faults l.fn.shelf;
  whole : IsTrue (g.S.Shelf.whole l.fn.shelf) → IsTrue (g.S.Shelf.whole l.shelf);
  put : AreReadAs (g.S.Shelf.files l.fn.shelf) l.image l.yielded l.pool;
  taken : (told : Files) → All (λ f. IsSizedBy (g.S.Shelf.files l.fn.shelf) told f.content) l.fn.files
      → g.S.Shelf.handed l.shelf ≤ g.S.Shelf.handed l.fn.shelf + read_sizes told l.yielded;
}
