use Rattle.std.proofs.Common.{arith}
use Rattle.jm_names.specs.Hash.{state_after}
use Rattle.jm_valid.proofs.PassageLaws.{replaced}
use Rattle.jm_valid.proofs.passages.pass_rest.Goals as goal

pub loop-state-preserved : goal.loop-state-preserved
loop-state-preserved c text bytes is =
    replaced (λ s. state_after s text) c.args.states.now c.loop-state.states c.loop-state.state-index 0 c.passed.result
    (c.loop-state.invariant text bytes is) (omega arith) (c.passed.ensures text bytes is)
