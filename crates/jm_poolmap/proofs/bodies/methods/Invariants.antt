use Rattle.std.proofs.Common.{◌≡◌, ◌-◌}
use Rattle.jm_poolmap.specs.Attributes.{bootstrap_method}
use Rattle.jm_poolmap.specs.Forms.{Texts, reads, times}
use Rattle.jm_poolmap.proofs.bodies.methods.Given as goal

abbrev pub invariant-loop-k : goal.invariant-loop-k
invariant-loop-k l = (texts : Texts) → reads texts (times (l.count - l._k) bootstrap_method) l.found l.cursor
    ≡ reads texts (times l.count bootstrap_method) l.fn.found l.fn.cursor
