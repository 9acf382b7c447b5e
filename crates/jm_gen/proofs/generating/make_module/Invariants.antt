use Rattle.std.proofs.Common.{◌≡◌, ◌+◌}
use Rattle.jm_outside.specs.Made.{MadeAll}
use Rattle.jm_gen.specs.Draws.{drawn}
use Rattle.jm_gen.specs.Generated.{module_files}
use Rattle.jm_gen.proofs.generating.make_module.Given as goal

abbrev pub invariant-loop-class : goal.invariant-loop-class
invariant-loop-class g l = record {
  files : MadeAll (module_files l.place.dir.now l.class l.fn.draws l.place.number 0) (g.S.Shelf.files l.fn.shelf) (g.S.Shelf.files l.shelf);
  draws : l.draws ≡ drawn l.fn.draws (l.class + 1);
  handed : g.S.Shelf.handed l.shelf ≡ g.S.Shelf.handed l.fn.shelf;
  faults : g.S.Shelf.faults l.shelf ≡ g.S.Shelf.faults l.fn.shelf;
}
