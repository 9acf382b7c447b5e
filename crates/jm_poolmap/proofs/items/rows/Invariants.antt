use Rattle.std.proofs.Common.{◌≡◌, ◌-◌}
use Rattle.jm_poolmap.specs.Forms.{Texts, reads, times}
use Rattle.jm_poolmap.specs.Items.{items}
use Rattle.jm_poolmap.proofs.items.rows.Given as goal

abbrev pub invariant-loop-k : goal.invariant-loop-k
invariant-loop-k l = (texts : Texts) → reads texts (times (l.count - l._k) (items l.row)) l.found l.cursor
    ≡ reads texts (times l.count (items l.row)) l.fn.found l.fn.cursor
