use Rattle.std.proofs.Common.{List, ℕ, All, subst, arith}
use Rattle.std.proofs.lemmas.List.{take_all}
use Rattle.jm_plugins.proofs.PackagingLaws.{StaysListed, listed_next}
use Rattle.jm_plugins.proofs.packages.all_stay.Goals as goal

pub loop-place-preserved : goal.loop-place-preserved
loop-place-preserved c =
    let pair : List ℕ × List ℕ = (c.at.result.0.now, c.at.result.1.now) in
    listed_next c.args.release c.args.pool.now c.loop-place.place pair c.at.ensures (omega arith) c.loop-place.invariant
    (c.in_ok-stay.ensures c.if-not-stay.false)

pub returns : goal.returns
returns c = λ yes. subst (All (StaysListed c.args.release)) (take_all c.loop-place.place c.args.pool.now (omega arith))
    c.loop-place.invariant
