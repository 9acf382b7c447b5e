use Rattle.jm_nodes.proofs.NameLaws.{folders_next}
use Rattle.jm_nodes.proofs.packages.package_folders.Goals as goal

pub loop-front-preserved : goal.loop-front-preserved
loop-front-preserved c =
    folders_next c.args.fronts.now c.loop-front.front-index _ _ _ c.loop-front-test.true c.loop-front.invariant
    c.in_ok-put_package_folder.ensures
