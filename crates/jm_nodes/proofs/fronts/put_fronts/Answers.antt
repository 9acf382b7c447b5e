use Rattle.std.proofs.Common.{arith, map}
use Rattle.jm_nodes.proofs.FrontLaws.{put_next}
use Rattle.jm_nodes.proofs.fronts.put_fronts.Goals as goal

pub loop-at-preserved : goal.loop-at-preserved
loop-at-preserved c =
    let before = c.loop-at.invariant in (
      omega (arith, before.0),
      put_next c.args.start c.loop-at.at c.args.name.now (map (λ front. front.now) c.args.list.now)
          (map (λ front. front.now) c.loop-at.list)
          (map (λ front. front.now) c.put_front.new.list) before.0 before.1 c.in_ok-put_front.ensures,
    )
