use Rattle.std.proofs.Common.{false}
use Rattle.jm_class.specs.Views.{pool_of}
use Rattle.jm_classout.proofs.ClassTexts.{slots_fit}
use Rattle.jm_classout.proofs.writing.write.Goals as goal

pub put_pool-requires-clause-slots : goal.put_pool-requires-clause-slots
put_pool-requires-clause-slots c = rw c.as_slice.ensures (slots_fit false (pool_of c.args.class.now.pool) c.requires.pool)
