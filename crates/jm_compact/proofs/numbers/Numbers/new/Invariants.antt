use Rattle.std.proofs.Common.{◌≡◌, ◌+◌, map}
use Rattle.std.specs.List.{range_with_len}
use Rattle.jm_compact.specs.Compact.{kept_before}
use Rattle.jm_compact.proofs.numbers.Numbers.new.Given as goal

abbrev pub invariant-loop-kept : goal.invariant-loop-kept
invariant-loop-kept l =
    (l.slots ≡ map (λ place. 1 + kept_before l.flags place) (range_with_len 0 l.kept-index))
    × (l.count ≡ 1 + kept_before l.flags l.kept-index)
