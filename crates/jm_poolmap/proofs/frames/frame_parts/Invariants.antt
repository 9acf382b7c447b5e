use Rattle.std.proofs.Common.{◌≡◌, drop}
use Rattle.jm_poolmap.specs.Forms.{Texts, reads}
use Rattle.jm_poolmap.specs.Frames.{frame_parts}
use Rattle.jm_poolmap.proofs.frames.frame_parts.Given as goal

abbrev pub invariant-loop-kind : goal.invariant-loop-kind
invariant-loop-kind l = (texts : Texts) → reads texts (frame_parts (drop l.kind-index l.parts)) l.found l.cursor
    ≡ reads texts (frame_parts l.parts) l.fn.found l.fn.cursor
