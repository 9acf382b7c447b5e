use Rattle.std.proofs.Common.{◌≡◌, ◌+◌, length, option_map, unwrap_or}
use Rattle.jm_pattern.specs.ComputedReading.{with_front}
use Rattle.jm_pattern.specs.Items.{patterns_from, list_of}
use Rattle.jm_pattern.specs.ReadingSteps.{items_behind}
use Rattle.jm_pattern.proofs.items.read_list.Given as goal

abbrev pub invariant-loop-left : goal.invariant-loop-left
invariant-loop-left l =
    list_of l.fn.text ≡ with_front l.patterns (patterns_from (length l.patterns) (items_behind (option_map (λ rest. rest.now) l.left)))

abbrev pub decreases-loop-left : goal.decreases-loop-left
decreases-loop-left l = unwrap_or (option_map (λ rest. length rest.now + 1) l.left) 0
