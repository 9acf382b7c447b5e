use Rattle.std.proofs.Common.{arith}
use Rattle.jm_halves.proofs.Least.{first_whole}
use Rattle.jm_halves.proofs.search.first_some.Given as given
use Rattle.jm_halves.proofs.search.first_some.Goals as goal

pub returns : goal.returns
returns g c =
    let run = c.in_ok-whole.field-0 in
    let all = c.in_ok-whole.ensures.all in
    first_whole (given.F-post g c.args.f.now) c.args.n run.pieces (omega arith) _ (rw (all.0, all.1) at c.first_in_run.ensures)
