use Rattle.std.proofs.Common.{◌≡◌, ◌+◌, ◌-◌, ◌*◌, ◌++◌, drop, length}
use Rattle.jm_class.specs.Views.{pool_of}
use Rattle.jm_modinfo.specs.Written.{numbers_text, need_slots}
use Rattle.jm_modinfo.proofs.writing.push_needs.Given as goal

abbrev pub invariant-loop-need : goal.invariant-loop-need
invariant-loop-need l =
    (l.rest ≡ numbers_text (6 + 2 * l.need-index) (length l.needs - l.need-index))
    × (pool_of l.pool ++ need_slots (6 + 2 * l.need-index) (drop l.need-index l.needs) ≡ pool_of l.fn.pool ++ need_slots 6 l.needs)
