use Rattle.jm_outside.proofs.Sound.{none_kept}
use Rattle.jm_outside.proofs.mem_shelf.MemShelf.new.Goals as goal

pub invariant_of-result : goal.invariant_of-result
invariant_of-result c = let kept = none_kept c.new.result c.new.ensures in record {
  rising = kept.rising;
  texts = kept.texts;
  bytes = kept.bytes;
}
