use Rattle.jm_link.proofs.closing.closed_from.Goals as goal

pub returns-in_ok-bind : goal.returns-in_ok-bind
returns-in_ok-bind c = rw c.if-binds.true c.in_ok-bind.ensures

pub returns-in_ok-close : goal.returns-in_ok-close
returns-in_ok-close c = rw c.if-binds.false c.in_ok-close.ensures
