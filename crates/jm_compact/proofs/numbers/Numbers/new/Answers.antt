use Rattle.std.proofs.Common.{sym, arith}
use Rattle.jm_compact.proofs.NewNumbers.{kept_before-small}
use Rattle.jm_compact.proofs.NumberSteps.{count_next, numbers_next}
use Rattle.jm_compact.proofs.numbers.Numbers.new.Goals as goal

pub counted-count-requires : goal.counted-count-requires
counted-count-requires c =
    let within = kept_before-small c.args.flags.now c.loop-kept.kept-index in
    let count = c.loop-kept.invariant.1 in
    omega (arith, within, count)

pub loop-kept-preserved : goal.loop-kept-preserved
loop-kept-preserved c = (
  rw (c.in_ok-push.ensures.ok, c.loop-kept.invariant.0, c.loop-kept.invariant.1)
      (sym (numbers_next c.args.flags.now c.loop-kept.kept-index)),
  rw (c.counted-count.ensures, c.loop-kept.invariant.1) (count_next c.args.flags.now c.loop-kept.kept-index),
)
