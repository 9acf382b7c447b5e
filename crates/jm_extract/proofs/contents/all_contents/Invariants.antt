use Rattle.std.proofs.Common.{◌≡◌, ◌≤◌, ◌+◌, ℕ, List, length, take}
use Rattle.jm_filed.specs.Filed.{IsAt}
use Rattle.jm_extract.specs.Filed.{AreContents, sizes}
use Rattle.jm_extract.proofs.contents.all_contents.Given as goal

abbrev pub invariant-loop-entry : goal.invariant-loop-entry
invariant-loop-entry g l = record {
  files : g.S.Shelf.files l.shelf ≡ g.S.Shelf.files l.fn.shelf;
  count : g.S.Shelf.faults l.shelf ≡ g.S.Shelf.faults l.fn.shelf;
  size : length l.texts ≡ l.entry-index;
  contents : (b : List ℕ) → IsAt (g.S.Shelf.files l.fn.shelf) l.path b
      → AreContents (g.S.Shelf.files l.fn.shelf) b l.entries l.texts;
  handed : g.S.Shelf.handed l.shelf ≤ g.S.Shelf.handed l.fn.shelf + sizes (take l.entry-index l.entries);
}
