use Rattle.std.proofs.Common.{◌≡◌, ◌+◌, ◌*◌}
use Rattle.jm_outside.specs.Made.{MadeAll}
use Rattle.jm_gen.specs.Draws.{drawn}
use Rattle.jm_gen.specs.Generated.{generated}
use Rattle.jm_gen.proofs.generating.generate.Given as goal

abbrev pub invariant-loop-number : goal.invariant-loop-number
invariant-loop-number g l = record {
  files : MadeAll (generated l.dir l.number l.classes l.seed) (g.S.Shelf.files l.fn.shelf) (g.S.Shelf.files l.shelf);
  draws : l.draws ≡ drawn l.seed (l.number * (l.classes + 1));
  handed : g.S.Shelf.handed l.shelf ≡ g.S.Shelf.handed l.fn.shelf;
  faults : g.S.Shelf.faults l.shelf ≡ g.S.Shelf.faults l.fn.shelf;
}
