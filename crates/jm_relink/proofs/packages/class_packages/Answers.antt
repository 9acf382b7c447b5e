use Rattle.std.proofs.Common.{rules}
use Rattle.std.proofs.lemmas.List.{take_all}
use Rattle.jm_relink.proofs.PackageLaws.{file_more}
use Rattle.jm_relink.proofs.packages.class_packages.Goals as goal

pub loop-file-preserved : goal.loop-file-preserved
loop-file-preserved c b = search (rules, file_more)

pub returns : goal.returns
returns c b = search (rules, take_all)
