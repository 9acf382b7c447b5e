use Rattle.std.proofs.Common.{false, not, length, get_or, ◌∙◌}
use Rattle.std.proofs.lemmas.Bool.{not_from_true}
use Rattle.jm_redirect.proofs.MarkLaws.{find_next}
use Rattle.jm_redirect.proofs.marks.unmarked_from.Goals as goal

pub loop-slot-preserved : goal.loop-slot-preserved
loop-slot-preserved c = c.loop-slot.invariant ∙ find_next (λ slot. not (get_or c.args.taken.now slot false)) c.loop-slot.slot
    (length c.args.taken.now) c.loop-slot-test.true (not_from_true (get_or c.args.taken.now c.loop-slot.slot false)
    c.if-not-taken-slot.false)
