use Rattle.std.proofs.Common.{◌≡◌, ◌+◌, ◌<◌, ◌≤◌, All, IsTrue, [], drop}
use Rattle.std.specs.List.{sum_by}
use Rattle.jm_outside.specs.Outcome.{Shows}
use Rattle.jm_modpath.specs.Finding.{directories_due}
use Rattle.jm_modpath.specs.Listed.{IsBelow, all_infos_size, infos_size}
use Rattle.jm_modpath.proofs.path.visible_modules.Given as goal

abbrev pub invariant-loop-directory : goal.invariant-loop-directory
invariant-loop-directory g l = record {
  files : g.S.Shelf.files l.shelf ≡ g.S.Shelf.files l.fn.shelf;
  faults : g.S.Shelf.faults l.shelf ≡ g.S.Shelf.faults l.fn.shelf;
  whole : 0 < l.directory-index → IsTrue (g.S.Shelf.whole l.shelf);
  told : Shows (g.S.Shelf.files l.fn.shelf) (λ files. directories_due l.release files l.found (drop l.directory-index l.directories)
      ≡ directories_due l.release files [] l.directories);
  below : All (λ m. IsBelow l.directories m.folder) l.found;
  taken : Shows (g.S.Shelf.files l.fn.shelf) (λ files. g.S.Shelf.handed l.shelf + sum_by (infos_size files) (drop l.directory-index l.directories)
      ≤ g.S.Shelf.handed l.fn.shelf + all_infos_size files l.directories);
}
