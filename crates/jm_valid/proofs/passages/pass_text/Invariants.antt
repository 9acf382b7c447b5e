use Rattle.std.proofs.Common.{◌≡◌, map, drop}
use Rattle.jm_names.specs.Hash.{state_after}
use Rattle.jm_valid.proofs.passages.pass_text.Given as goal

-- what is left gives from here the states that the whole gives from the first ones
abbrev pub invariant-loop-byte : goal.invariant-loop-byte
invariant-loop-byte l = map (λ s. state_after s (drop l.byte-index l.text)) l.states ≡ map (λ s. state_after s l.text) l.fn.states
