use Rattle.std.proofs.Common.{arith}
use Rattle.std.specs.Fn.{FnReturnsAt}
use Rattle.jm_halves.proofs.Zipped.{zip_joined}
use Rattle.jm_halves.proofs.map.+map.Goals as goal

pub returns : goal.returns
returns g t c =
    let run = c.args.run in
    let left = c.in-Some.left in
    let halves = c.in-Some.ensures in
    let found = c.join-front.ensures in
    zip_joined (FnReturnsAt g.F.Fn c.args.f.now) (λ v. v.items) c.args.items.now run.pieces run.from left.to run.to
    (omega arith) (omega arith) (omega arith) _ _ _ c.answers_of_both.ensures
    (rw (halves.start, halves.first) at found.first)
    (rw (← halves.meet, halves.end, halves.second) at found.second)
