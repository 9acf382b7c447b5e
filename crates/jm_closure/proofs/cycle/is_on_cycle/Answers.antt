use Rattle.std.proofs.lemmas.Bool.{false≢true}
use Rattle.jm_closure.proofs.ReachLaws.{ends_within}
use Rattle.jm_closure.proofs.CycleLaws.{off_cycle}
use Rattle.jm_closure.proofs.cycle.is_on_cycle.Goals as goal

pub returns-then-not-stays_in_round : goal.returns-then-not-stays_in_round
returns-then-not-stays_in_round c = (
  λ is. absurd (false≢true is),
  λ cycle. absurd (off_cycle c.args.graph.now c.args.rounds.now c.args.node c.requires.rise c.if-not-stays_in_round.ensures cycle),
)

pub reached-requires-clause-starts : goal.reached-requires-clause-starts
reached-requires-clause-starts c =
    rw c.ends.ensures (ends_within c.args.graph.now c.args.node c.requires.graph)
