use Rattle.std.proofs.Common.{◌-◌, inl, inr, arith, ◌∙◌}
use Rattle.jm_poolmap.specs.Instructions.{instruction, instructions}
use Rattle.jm_poolmap.proofs.Loops.{finds_stop, run_begins, run_next, run_stops, run_ends}
use Rattle.jm_poolmap.proofs.instructions.instructions.Goals as goal

pub loop-k-init : goal.loop-k-init
loop-k-init c texts = run_begins c.len-most.result c.place-start.ensures c.len-most.ensures

pub returns-then-len-eq0 : goal.returns-then-len-eq0
returns-then-len-eq0 c texts =
    run_ends c.len-most.result c.loop-k._k (c.loop-k.invariant texts) (inl (c.loop-k-test.true, omega arith))

pub returns-in_err-instruction : goal.returns-in_err-instruction
returns-in_err-instruction c texts =
    finds_stop texts (instruction (c.loop-k.cursor.place - c.place-start.result)) instructions c.in_err-instruction.field-0.0
    c.from_residual.result c.args.found.now c.loop-k.found c.instruction.new.found c.args.cursor.now c.loop-k.cursor
    c.instruction.new.cursor c.from_residual.ensures.1 (c.in_err-instruction.ensures texts)
    (run_stops c.len-most.result c.loop-k._k (c.loop-k.invariant texts) c.loop-k-test.true
    (λ none. c.if-len-eq0.false (c.len.ensures ∙ none)))

pub loop-k-preserved : goal.loop-k-preserved
loop-k-preserved c texts =
    run_next c.len-most.result c.loop-k._k (c.loop-k.invariant texts) c.loop-k-test.true
    (λ none. c.if-len-eq0.false (c.len.ensures ∙ none)) (c.in_ok-instruction.ensures texts)

pub returns : goal.returns
returns c texts = run_ends c.len-most.result c.loop-k._k (c.loop-k.invariant texts) (inr (omega arith))
