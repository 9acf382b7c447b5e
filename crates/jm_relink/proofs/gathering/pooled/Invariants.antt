use Rattle.std.proofs.Common.{◌≡◌, ◌++◌, map}
use Rattle.jm_reader.specs.Walk.{IsLater}
use Rattle.jm_relink.specs.Choosing.{chosen_in}
use Rattle.jm_relink.proofs.gathering.pooled.Given as goal

abbrev pub invariant-loop-file : goal.invariant-loop-file
invariant-loop-file g l = record {
  can : (goal.iterator-loop-file g).can_next l.file-iterator;
  ends : (goal.iterator-loop-file g).is_finite l.file-iterator;
  all : l.yielded ++ l.file-iterator.rest.items ≡ l.fn.files;
  metered : l.reads.bytes ≡ l.image;
  reads : IsLater l.fn.reads l.reads;
  pool : l.pool ≡ map (chosen_in l.image) l.yielded;
}
