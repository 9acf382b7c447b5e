use Rattle.std.proofs.Common.{All, IsUtf8}
use Rattle.jm_outside.specs.Files.{Rising}
use Rattle.jm_disk.proofs.folders.in_order.Given as goal

abbrev pub invariant-loop-name : goal.invariant-loop-name
invariant-loop-name l = record {
  can : (goal.iterator-loop-name).can_next l.name-iterator;
  ends : (goal.iterator-loop-name).is_finite l.name-iterator;
  rising : Rising l.rising;
  texts : All IsUtf8 l.rising;
}
