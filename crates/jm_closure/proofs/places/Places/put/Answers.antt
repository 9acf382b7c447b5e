use Rattle.jm_closure.proofs.PlaceLaws.{insert-shown}
use Rattle.jm_closure.proofs.places.Places.put.Goals as goal

pub returns-clause-ok : goal.returns-clause-ok
returns-clause-ok c = λ other.
    rw (← c.self.view_is, c.in_ok-insert.ensures.entries, ← c.in_ok-copy_of.ensures)
    (insert-shown (λ k. k.items) c.in_ok-copy_of.field-0 c.args.place c.self.inside.places.entries other)
