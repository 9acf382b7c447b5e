use Rattle.std.proofs.Common.{rules}
use Rattle.jm_modset.proofs.ReadLaws.{info_more, info_size_more}
use Rattle.jm_modset.proofs.infos.read_infos.Goals as goal

pub loop-module-preserved : goal.loop-module-preserved
loop-module-preserved g c = search (rules, info_more, info_size_more)
