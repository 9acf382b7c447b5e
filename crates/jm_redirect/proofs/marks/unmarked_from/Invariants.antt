use Rattle.std.proofs.Common.{◌≡◌, ◌-◌, false, not, length}
use Rattle.std.specs.Prelude.{slice_index_or}
use Rattle.std.specs.List.{find, range_with_len}
use Rattle.jm_redirect.proofs.marks.unmarked_from.Given as goal

abbrev pub invariant-loop-slot : goal.invariant-loop-slot
invariant-loop-slot l =
    find (λ slot. not (slice_index_or l.taken slot false)) (range_with_len l.from (length l.taken - l.from))
    ≡ find (λ slot. not (slice_index_or l.taken slot false)) (range_with_len l.slot (length l.taken - l.slot))
