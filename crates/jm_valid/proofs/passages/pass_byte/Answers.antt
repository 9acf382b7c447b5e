use Rattle.std.proofs.Common.{◌^◌, ◌*◌, ◌%◌, [], ◌∷◌, ap, arith, get_or}
use Rattle.std.specs.Prelude.{bit_xor}
use Rattle.jm_names.specs.Hash.{state_after}
use Rattle.jm_valid.proofs.PassageLaws.{replaced}
use Rattle.jm_valid.proofs.passages.pass_byte.Goals as goal

pub loop-state-preserved : goal.loop-state-preserved
loop-state-preserved c =
    let states = c.loop-state.states in
    let i = c.loop-state.state-index in
    replaced (λ s. state_after s (c.args.byte ∷ [])) c.args.states.now states i 0 _ c.loop-state.invariant (omega arith)
    (ap (λ b. bit_xor (get_or states i 0 * 0x01000193 % 2 ^ 32) b) c.from.ensures)
