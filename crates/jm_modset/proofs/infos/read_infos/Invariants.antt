use Rattle.std.proofs.Common.{◌≡◌, ◌≤◌, ◌+◌, take}
use Rattle.jm_modset.specs.Infos.{AreInfosRead, info_sizes}
use Rattle.jm_modset.proofs.infos.read_infos.Given as goal

abbrev pub invariant-loop-module : goal.invariant-loop-module
invariant-loop-module g l = record {
  files : g.S.Shelf.files l.shelf ≡ g.S.Shelf.files l.fn.shelf;
  count : g.S.Shelf.faults l.shelf ≡ g.S.Shelf.faults l.fn.shelf;
  infos : AreInfosRead (g.S.Shelf.files l.fn.shelf) l.path (take l.module-index l.entries) l.infos;
  handed : g.S.Shelf.handed l.shelf ≤ g.S.Shelf.handed l.fn.shelf + info_sizes (take l.module-index l.entries);
}
