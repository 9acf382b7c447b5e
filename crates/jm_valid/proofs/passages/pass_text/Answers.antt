use Rattle.std.proofs.Common.{map, arith}
use Rattle.jm_names.specs.Hash.{state_after}
use Rattle.jm_valid.proofs.PassageLaws.{passed_all, passed_byte}
use Rattle.jm_valid.proofs.passages.pass_text.Goals as goal

pub loop-byte-preserved : goal.loop-byte-preserved
loop-byte-preserved c =
    passed_byte c.loop-byte.states c.pass_byte.new.states (map (λ s. state_after s c.args.text.now) c.args.states.now)
    c.args.text.now c.loop-byte.byte-index (omega arith) c.pass_byte.ensures c.loop-byte.invariant

pub returns : goal.returns
returns c =
    passed_all c.loop-byte.states (map (λ s. state_after s c.args.text.now) c.args.states.now) c.args.text.now
    c.loop-byte.byte-index (omega arith) c.loop-byte.invariant
