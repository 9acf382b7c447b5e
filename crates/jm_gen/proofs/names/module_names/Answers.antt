use Rattle.std.proofs.Common.{rules}
use Rattle.jm_gen.proofs.FileLaws.{name_next}
use Rattle.jm_gen.proofs.names.module_names.Goals as goal

pub loop-number-preserved : goal.loop-number-preserved
loop-number-preserved c = search (rules, name_next)
