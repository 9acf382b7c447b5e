use Rattle.std.proofs.Common.{◌≡◌, ◌-◌}
use Rattle.jm_class.specs.Classes.{utf8_at}
use Rattle.jm_class.specs.Layouts.{U2}
use Rattle.jm_class.specs.Views.{pool_of}
use Rattle.jm_poolmap.specs.Forms.{counted, reads, times}
use Rattle.jm_poolmap.specs.Attributes.{attribute_of_code}
use Rattle.jm_poolmap.proofs.members.attributes_of_code.Given as goal

abbrev pub invariant-loop-k : goal.invariant-loop-k
invariant-loop-k l = reads (utf8_at (pool_of l.class.pool)) (times (l.count - l._k) attribute_of_code) l.found l.cursor
    ≡ reads (utf8_at (pool_of l.class.pool)) (counted U2 attribute_of_code) l.fn.found l.fn.cursor
