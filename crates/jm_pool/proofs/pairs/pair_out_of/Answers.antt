use Rattle.std.proofs.Common.{refl}
use Rattle.jm_pool.proofs.pairs.pair_out_of.Goals as goal

pub returns-clause-left : goal.returns-clause-left
returns-clause-left c = (c.replace.new.dest, refl)
