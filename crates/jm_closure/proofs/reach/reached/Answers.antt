use Rattle.std.proofs.Common.{◌≡◌, length, replicate, rules, of_calls}
use Rattle.std.proofs.lemmas.Result.{IfOk-weaker}
use Rattle.jm_closure.proofs.ReachLaws.{round_marked}
use Rattle.jm_closure.proofs.reach.reached.Goals as goal

pub returns-clause-exactly : goal.returns-clause-exactly
returns-clause-exactly c =
    let none : c.in_ok-rounds.rounds.items ≡ replicate c.len.result 0 = search (rules, of_calls) in
    IfOk-weaker c.marks.result _ _
    (λ flags is. round_marked c.args.graph.now c.args.starts.now (length c.args.graph.now) c.reach.new.rounds.items flags.items
    (rw c.as_slice.ensures.value at is) (rw (none, c.len.ensures) at c.in_ok-reach.ensures))
    c.marks.ensures
