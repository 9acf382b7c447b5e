use Rattle.std.proofs.Common.{◌∙◌, length, ap, sym, arith}
use Rattle.std.proofs.lemmas.List.Elements.{All-cons, All-tail}
use Rattle.jm_pattern.proofs.Runs.{InRun}
use Rattle.jm_pattern.proofs.SearchCosts.{line-byte}
use Rattle.jm_pattern.proofs.matching.behind_slash.Goals as goal

pub loop-byte-preserved : goal.loop-byte-preserved
loop-byte-preserved g c =
    let loop = c.loop-byte.invariant in
    let b = c.in-Some.byte.now in
    let after = c.in-Some.after.now in
    let is = c.in-Some.ensures.cases.0 in
    let line = line-byte c.loop-byte.rest.now b after is c.if-byte-eq47.false in
    record {
      same = sym line.0 ∙ loop.same;
      shorter = omega (arith, ap length is, loop.shorter);
      free = λ a. loop.free (rw is (All-cons InRun b after c.if-byte-eq47.false a));
      slash = λ a. All-tail InRun b after (rw is at (loop.slash a));
      cost = omega (arith, line.1, loop.cost, c.add.ensures);
    }
