use Rattle.std.proofs.Common.{◌≡◌, ◌+◌, ◌-◌, ◌*◌, ◌++◌}
use Rattle.jm_modinfo.specs.Written.{numbers_text}
use Rattle.jm_modinfo.proofs.writing.name_numbers.Given as goal

abbrev pub invariant-loop-k : goal.invariant-loop-k
invariant-loop-k l = l.numbers.items ++ numbers_text (6 + 2 * l.k) (l.count - l.k) ≡ numbers_text 6 l.count
