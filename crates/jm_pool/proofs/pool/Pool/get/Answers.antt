use Rattle.jm_pool.proofs.PairLaws.{shown-lookup}
use Rattle.jm_pool.proofs.pool.Pool.get.Goals as goal

pub returns-in-Some : goal.returns-in-Some
returns-in-Some c = rw (
  ← c.self.view_is,
  ← shown-lookup (λ k. k.items) (λ v. v.items) c.args.name.now c.self.inside.pairs.entries,
  ← c.get.ensures.value,
  c.in-Some.is,
  c.as_slice.ensures.value,
)

pub returns-in-None : goal.returns-in-None
returns-in-None c = rw (
  ← c.self.view_is,
  ← shown-lookup (λ k. k.items) (λ v. v.items) c.args.name.now c.self.inside.pairs.entries,
  ← c.get.ensures.value,
  c.in-None.is,
)
