use Rattle.std.proofs.Common.{◌≡◌, ◌-◌}
use Rattle.jm_class.specs.Layouts.{U2}
use Rattle.jm_poolmap.specs.Forms.{Texts, counted, reads, site, times}
use Rattle.jm_poolmap.proofs.members.interfaces.Given as goal

abbrev pub invariant-loop-k : goal.invariant-loop-k
invariant-loop-k l = (texts : Texts) → reads texts (times (l.count - l._k) site) l.found l.cursor
    ≡ reads texts (counted U2 site) l.fn.found l.fn.cursor
