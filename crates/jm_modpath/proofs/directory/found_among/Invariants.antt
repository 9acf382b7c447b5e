use Rattle.std.proofs.Common.{◌≡◌, ◌+◌, ◌≤◌, All, IsTrue, [], drop}
use Rattle.std.specs.List.{sum_by}
use Rattle.jm_outside.specs.Outcome.{Shows}
use Rattle.jm_modpath.specs.Finding.{folders_due}
use Rattle.jm_modpath.specs.Listed.{IsInside, info_size}
use Rattle.jm_modpath.proofs.directory.found_among.Given as goal

abbrev pub invariant-loop-folder : goal.invariant-loop-folder
invariant-loop-folder g l = record {
  files : g.S.Shelf.files l.shelf ≡ g.S.Shelf.files l.fn.shelf;
  faults : g.S.Shelf.faults l.shelf ≡ g.S.Shelf.faults l.fn.shelf;
  whole : IsTrue (g.S.Shelf.whole l.fn.shelf) → IsTrue (g.S.Shelf.whole l.shelf);
  told : Shows (g.S.Shelf.files l.fn.shelf)
      (λ files. folders_due l.listing.release files l.listing.directory.now l.found (drop l.folder-index l.folder-items)
      ≡ folders_due l.listing.release files l.listing.directory.now [] l.folder-items);
  below : All (λ m. IsInside l.listing.directory.now m.folder) l.found;
  taken : Shows (g.S.Shelf.files l.fn.shelf)
      (λ files. g.S.Shelf.handed l.shelf + sum_by (info_size files l.listing.directory.now) (drop l.folder-index l.folder-items)
      ≤ g.S.Shelf.handed l.fn.shelf + sum_by (info_size files l.listing.directory.now) l.folder-items);
}
