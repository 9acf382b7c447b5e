use Rattle.std.proofs.Common.{◌≡◌, ℕ, ◌<◌, List, All}
use Rattle.jm_names.specs.Hash.{state_after}
use Rattle.jm_valid.specs.Passages.{passage_of}
use Rattle.jm_valid.proofs.PassageLaws.{mapped_to}
use Rattle.jm_valid.proofs.passages.pass_rest.Given as goal

abbrev pub invariant-loop-state : goal.invariant-loop-state
invariant-loop-state l = (text : List ℕ) → All (λ b. b < 256) text → l.passage ≡ passage_of text → l.states
    ≡ mapped_to (λ s. state_after s text) l.fn.states l.state-index
