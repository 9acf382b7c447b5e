use Rattle.std.proofs.Common.{length, sym}
use Rattle.std.proofs.lemmas.Bool.{eqb-true}
use Rattle.jm_redirect.proofs.ReachedLaws.{reached_all}
use Rattle.jm_redirect.proofs.buckets.give_all.Goals as goal

pub returns-clause-all : goal.returns-clause-all
returns-clause-all c =
    reached_all c.args.names.now (length c.args.redirects.now) c.loop-left.taken c.loop-left.redirects c.loop-left.left.free
    c.loop-left.left.turns.now (eqb-true (length c.loop-left.left.turns.now) 0 (sym c.loop-left-test.ensures))
    c.loop-left.invariant.reached
