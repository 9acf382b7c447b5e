use Rattle.std.proofs.Common.{◌≡◌, ◌-◌}
use Rattle.jm_class.specs.Layouts.{U2}
use Rattle.jm_poolmap.specs.Forms.{Texts, reads, counted, times}
use Rattle.jm_poolmap.specs.Frames.{type}
use Rattle.jm_poolmap.proofs.frames.frame_part.Given as goal

abbrev pub invariant-loop-k : goal.invariant-loop-k
invariant-loop-k l = (texts : Texts) → reads texts (times (l.count - l._k) type) l.found l.cursor
    ≡ reads texts (counted U2 type) l.fn.found l.fn.cursor
