-- The exit statuses (this project's rule).
use Rattle.std.specs.Prelude.{ℕ}
use Rattle.jm_inspect.specs.declared.status.Status.{Status}
use Rattle.jm_inspect.specs.declared.status.Status.TheVariants.{Done, Words, Refused, Damaged}
use Rattle.jm_inspect.specs.declared.status.Status.TheVariants.{NotThere, Outside, Memory, Session}

-- the number with which the process ends
abbrev pub value_of : Status → ℕ
value_of Done = 0
value_of Words = 2
value_of Refused = 3
value_of Damaged = 4
value_of NotThere = 5
value_of Outside = 6
value_of Memory = 7
value_of Session = 8
