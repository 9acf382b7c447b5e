use Rattle.std.proofs.Common.{rules}
use Rattle.std.proofs.lemmas.List.{take_all}
use Rattle.jm_plugins.proofs.PackagingLaws.{folders_more}
use Rattle.jm_plugins.proofs.packages.folders_by.Goals as goal

pub loop-key-preserved : goal.loop-key-preserved
loop-key-preserved c = search (rules, folders_more)

pub returns : goal.returns
returns c = search (rules, take_all)
