use Rattle.std.proofs.Common.{◌≡◌, ◌+◌, ◌-◌, ◌*◌, ◌++◌}
use Rattle.jm_modinfo.specs.Written.{numbers_text}
use Rattle.jm_packages.proofs.constants.put_numbers.Given as goal

abbrev pub invariant-loop-k : goal.invariant-loop-k
invariant-loop-k l =
    l.text.items ++ numbers_text (l.below + 2 + 2 * l.k) (l.count - l.k)
    ≡ l.fn.text.items ++ numbers_text (l.below + 2) l.count
