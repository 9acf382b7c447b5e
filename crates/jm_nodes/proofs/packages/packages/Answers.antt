use Rattle.jm_nodes.proofs.NameLaws.{packages_next}
use Rattle.jm_nodes.proofs.packages.packages.Goals as goal

pub loop-front-preserved : goal.loop-front-preserved
loop-front-preserved c =
    packages_next c.args.fronts.now c.loop-front.front-index _ _ _ c.loop-front-test.true c.loop-front.invariant
    c.in_ok-put_package.ensures
