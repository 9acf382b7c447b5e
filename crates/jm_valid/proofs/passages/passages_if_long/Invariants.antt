use Rattle.std.proofs.Common.{◌≡◌, ◌+◌, ◌-◌, ◌/◌, length, map}
use Rattle.std.specs.List.{range_with_len}
use Rattle.jm_valid.specs.Passages.{nth_passage}
use Rattle.jm_valid.proofs.passages.passages_if_long.Given as goal

abbrev pub invariant-loop-nth : goal.invariant-loop-nth
invariant-loop-nth l = l.passages ≡ map (λ k. nth_passage l.texts (length l.texts / 512 + 2 - 1 - k)) (range_with_len 0 (l.nth + 1))
