use Rattle.jm_pool.proofs.PairLaws.{shown-set_value_at}
use Rattle.jm_pool.proofs.pool.Pool.replace.Goals as goal

pub returns : goal.returns
returns c = rw (← c.self.view_is, ← c.into_vec.ensures) (shown-set_value_at (λ k. k.items) (λ v. v.items)
    c.self.inside.pairs.entries c.args.place c.into_vec.result)
