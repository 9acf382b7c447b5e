use Rattle.jm_pool.proofs.PairLaws.{shown-differ}
use Rattle.jm_pool.proofs.pool.Pool.len.Goals as goal

pub returns-clause-differ : goal.returns-clause-differ
returns-clause-differ c = rw (← c.self.view_is) (shown-differ (λ k. k.items) (λ v. v.items) c.self.inside.pairs.entries
    c.len.ensures.unique)
