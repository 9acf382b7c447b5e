use Rattle.std.proofs.Common.{◌≡◌, [], ◌∷◌}
use Rattle.jm_names.specs.Hash.{state_after}
use Rattle.jm_valid.proofs.PassageLaws.{mapped_to}
use Rattle.jm_valid.proofs.passages.pass_byte.Given as goal

abbrev pub invariant-loop-state : goal.invariant-loop-state
invariant-loop-state l = l.states ≡ mapped_to (λ s. state_after s (l.byte ∷ [])) l.fn.states l.state-index
