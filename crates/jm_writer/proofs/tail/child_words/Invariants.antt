use Rattle.std.proofs.Common.{◌≡◌, map, take}
use Rattle.std.specs.Prelude.{slice_get, unwrap_or}
use Rattle.jm_writer.proofs.tail.child_words.Given as goal

abbrev pub invariant-loop-slot : goal.invariant-loop-slot
invariant-loop-slot l = l.words ≡ map (λ slot. unwrap_or (slice_get l.places slot) 0) (take l.slot-index l.found)
