use Rattle.std.proofs.Common.{arith}
use Rattle.jm_halves.proofs.Least.{first_runs}
use Rattle.jm_halves.proofs.search.+search.Given as given
use Rattle.jm_halves.proofs.search.+search.Goals as goal

pub returns : goal.returns
returns g t c =
    let run = c.args.run in
    let left = c.in-Some.left in
    let halves = c.in-Some.ensures in
    let found = c.join-front.ensures in
    rw c.or.ensures
    (first_runs (given.F-post g c.args.f.now) c.args.n run.pieces run.from left.to run.to (omega arith) (omega arith) (omega arith) _ _
    (rw (halves.start, halves.first) at found.first)
    (rw (← halves.meet, halves.end, halves.second) at found.second))
