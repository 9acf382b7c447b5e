use Rattle.std.proofs.Common.{◌≡◌, ◌++◌, length}
use Rattle.jm_names.specs.UtfForms.{utf}
use Rattle.jm_names.proofs.forms.to_utf8.Given as goal

-- what the rest becomes goes behind what was put
abbrev pub invariant-loop-first : goal.invariant-loop-first
invariant-loop-first l = utf l.fn.name ≡ l.text ++ utf l.rest

abbrev pub decreases-loop-first : goal.decreases-loop-first
decreases-loop-first l = length l.rest
