use Rattle.std.proofs.Common.{◌≡◌, ◌≤◌, ◌+◌, ℕ, List, drop, length, map, take}
use Rattle.jm_outside.specs.Made.{MadeAll}
use Rattle.jm_extract.specs.Extracted.{writes_of}
use Rattle.jm_filed.specs.Filed.{IsAt}
use Rattle.jm_extract.specs.Filed.{sizes}
use Rattle.jm_filed.specs.Taken.{taken_as}
use Rattle.jm_extract.proofs.extracting.make_files.Given as goal

abbrev pub invariant-loop-place : goal.invariant-loop-place
invariant-loop-place g l = record {
  made : (b : List ℕ) → IsAt (g.S.Shelf.files l.fn.shelf) l.path b
      → MadeAll (writes_of l.dir (map (taken_as b) (take l.place l.entries))) (g.S.Shelf.files l.fn.shelf) (g.S.Shelf.files l.shelf);
  count : g.S.Shelf.faults l.shelf ≡ g.S.Shelf.faults l.fn.shelf;
  handed : g.S.Shelf.handed l.shelf ≤ g.S.Shelf.handed l.fn.shelf + sizes (take (length l.kept) l.entries)
      + sizes (drop (length l.kept) (take l.place l.entries));
}
