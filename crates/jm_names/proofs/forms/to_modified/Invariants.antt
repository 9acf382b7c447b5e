use Rattle.std.proofs.Common.{◌≡◌, ◌++◌, length}
use Rattle.jm_names.specs.UtfForms.{modified}
use Rattle.jm_names.proofs.forms.to_modified.Given as goal

-- what the rest becomes goes behind what was put
abbrev pub invariant-loop-first : goal.invariant-loop-first
invariant-loop-first l = modified l.fn.text ≡ l.name ++ modified l.rest

abbrev pub decreases-loop-first : goal.decreases-loop-first
decreases-loop-first l = length l.rest
