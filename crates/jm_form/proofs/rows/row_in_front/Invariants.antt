use Rattle.std.proofs.Common.{◌≡◌, ◌-◌, length}
use Rattle.jm_form.specs.ComputedRows.{row_from}
use Rattle.jm_form.specs.Rows.{blank}
use Rattle.jm_form.proofs.rows.row_in_front.Given as goal

-- what is left makes of the row so far what the whole makes of a blank one
abbrev pub invariant-loop-first : goal.invariant-loop-first
invariant-loop-first l = row_from (7 - l.above) l.above l.row l.rest ≡ row_from 7 0 blank l.bytes

abbrev pub decreases-loop-first : goal.decreases-loop-first
decreases-loop-first l = length l.rest
