use Rattle.std.proofs.Common.{◌≡◌, ◌-◌}
use Rattle.jm_class.specs.Classes.{utf8_at}
use Rattle.jm_class.specs.Layouts.{U2}
use Rattle.jm_class.specs.Views.{pool_of}
use Rattle.jm_poolmap.specs.Forms.{counted, reads, times}
use Rattle.jm_poolmap.specs.Attributes.{attribute}
use Rattle.jm_poolmap.proofs.members.attributes.Given as goal

abbrev pub invariant-loop-k : goal.invariant-loop-k
invariant-loop-k l = reads (utf8_at (pool_of l.class.pool)) (times (l.count - l._k) (attribute l.place)) l.found l.cursor
    ≡ reads (utf8_at (pool_of l.class.pool)) (counted U2 (attribute l.place)) l.fn.found l.fn.cursor
