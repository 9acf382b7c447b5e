use Rattle.std.proofs.Common.{◌-◌}
use Rattle.jm_poolmap.specs.Forms.{Texts}
use Rattle.jm_poolmap.specs.Instructions.{instruction}
use Rattle.jm_poolmap.proofs.Loops.{ToCome}
use Rattle.jm_poolmap.proofs.instructions.instructions.Given as goal

abbrev pub invariant-loop-k : goal.invariant-loop-k
invariant-loop-k l = (texts : Texts)
    → ToCome texts instruction l.start l.fn.found l.fn.cursor (l.most - l._k) l.found l.cursor
