use Rattle.std.proofs.Common.{sym, ◌∙◌, arith}
use Rattle.jm_redirect.proofs.FreeSlotLaws.{least_free_from, free_found, taken_below_found}
use Rattle.jm_redirect.proofs.buckets.least_free.Goals as goal

pub bounds-taken-slot : goal.bounds-taken-slot
bounds-taken-slot c = free_found c.args.taken.now c.args.free.now c.in_ok-slot.slot (sym c.unmarked_from.ensures ∙ c.in_ok-slot.was)

pub overflow_cast-result : goal.overflow_cast-result
overflow_cast-result c =
    let below = free_found c.args.taken.now c.args.free.now c.in_ok-slot.slot (sym c.unmarked_from.ensures ∙ c.in_ok-slot.was) in
    omega (arith, below, c.requires.few)

pub returns-clause-slot : goal.returns-clause-slot
returns-clause-slot c = λ before marks below.
    sym c.in_ok-slot.was ∙ c.unmarked_from.ensures ∙ least_free_from c.args.taken.now before c.args.free.now marks below

pub returns-in_err-slot-clause-slot : goal.returns-in_err-slot-clause-slot
returns-in_err-slot-clause-slot c = λ before marks below.
    c.from_residual.ensures ∙ sym c.in_err-slot.was ∙ c.unmarked_from.ensures ∙ least_free_from c.args.taken.now before
    c.args.free.now marks below

pub returns-clause-below : goal.returns-clause-below
returns-clause-below c = free_found c.args.taken.now c.args.free.now c.in_ok-slot.slot (sym c.unmarked_from.ensures ∙ c.in_ok-slot.was)

pub returns-clause-free : goal.returns-clause-free
returns-clause-free c = λ before marks below.
    taken_below_found c.args.taken.now before c.args.free.now c.in_ok-slot.slot marks below (sym c.unmarked_from.ensures ∙ c.in_ok-slot.was)
