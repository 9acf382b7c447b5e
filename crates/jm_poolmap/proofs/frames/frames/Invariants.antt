use Rattle.std.proofs.Common.{◌≡◌, ◌-◌}
use Rattle.jm_poolmap.specs.Forms.{Texts, reads, times}
use Rattle.jm_poolmap.specs.Frames.{frame}
use Rattle.jm_poolmap.proofs.frames.frames.Given as goal

abbrev pub invariant-loop-k : goal.invariant-loop-k
invariant-loop-k l = (texts : Texts) → reads texts (times (l.count - l._k) frame) l.found l.cursor
    ≡ reads texts (times l.count frame) l.fn.found l.fn.cursor
