use Rattle.std.proofs.Common.{◌∙◌, ap}
use Rattle.jm_pool.proofs.PairLaws.{shown, shown-flagged_items}
use Rattle.jm_pool.proofs.pool.Pool.retain_flags.Goals as goal

pub returns : goal.returns
returns c = rw (← c.self.view_is) (ap (shown (λ k. k.items) (λ v. v.items)) (c.truncate.ensures.entries
    ∙ c.flagged_count-count.ensures) ∙ shown-flagged_items (λ k. k.items) (λ v. v.items) c.args.keep.now c.self.inside.pairs.entries)
