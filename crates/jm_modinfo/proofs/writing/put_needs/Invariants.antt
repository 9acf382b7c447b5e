use Rattle.std.proofs.Common.{◌≡◌, ◌+◌, ◌*◌, ◌<◌, ◌^◌, ◌++◌, take, drop}
use Rattle.std.specs.Prelude.{All}
use Rattle.jm_modinfo.specs.Written.{needs_text}
use Rattle.jm_modinfo.proofs.writing.put_needs.Given as goal

abbrev pub invariant-loop-need : goal.invariant-loop-need
invariant-loop-need l =
    (l.number ≡ 7 + 2 * l.need-index)
    × (l.text.items ++ needs_text l.number (drop l.need-index l.needs) ≡ l.fn.text.items ++ needs_text 7 l.needs)
    × All (λ n. n.flags < 2 ^ 16) (take l.need-index l.needs)
