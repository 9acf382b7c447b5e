use Rattle.std.proofs.Common.{arith}
use Rattle.jm_pattern.proofs.FirstSign.{reads-further}
use Rattle.jm_pattern.proofs.reading.signs_of.Goals as goal

pub loop-rest-preserved : goal.loop-rest-preserved
loop-rest-preserved c = record {
  within = omega (arith, c.in-Some.ensures.shorter);
  reads = rw c.in_ok-push-in-Some.ensures.ok (reads-further c.args.text.now c.loop-rest.signs c.loop-rest.rest.now c.in-Some.sign
      c.in-Some.after.now c.loop-rest.invariant.within c.loop-rest.invariant.reads c.in-Some.ensures.shorter c.in-Some.ensures.some);
}
