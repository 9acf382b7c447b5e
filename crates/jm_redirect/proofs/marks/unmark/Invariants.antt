use Rattle.std.proofs.Common.{◌≡◌, ℕ, ◌<◌, false, length, take}
use Rattle.std.specs.Prelude.{slice_index_or, if◌then◌else◌}
use Rattle.jm_form.specs.Greedy.{is_among}
use Rattle.jm_redirect.proofs.marks.unmark.Given as goal

abbrev pub invariant-loop-slot : goal.invariant-loop-slot
invariant-loop-slot l = record {
  size : length l.taken ≡ length l.fn.taken;
  gone : (slot : ℕ) → slot < length l.fn.taken → slice_index_or l.taken slot false
      ≡ (if is_among (take l.slot-index l.slots) slot then false else slice_index_or l.fn.taken slot false);
}
