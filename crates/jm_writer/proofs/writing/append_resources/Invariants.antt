use Rattle.std.proofs.Common.{◌≡◌, ◌++◌, ℕ, List, take, Option}
use Rattle.jm_outside.specs.Files.{Files}
use Rattle.jm_form.specs.Layout.{contents_text}
use Rattle.jm_outside.specs.Holds.{Holds}
use Rattle.jm_writer.proofs.writing.append_resources.Given as goal

abbrev pub invariant-loop-place : goal.invariant-loop-place
invariant-loop-place g l = record {
  files : (base : Option Files) (front : List ℕ) → Holds base l.path front (g.S.Shelf.files l.fn.shelf)
      → Holds base l.path (front ++ contents_text (take l.place l.pool)) (g.S.Shelf.files l.shelf);
  faults : g.S.Shelf.faults l.shelf ≡ g.S.Shelf.faults l.fn.shelf;
  handed : g.S.Shelf.handed l.shelf ≡ g.S.Shelf.handed l.fn.shelf;
}
