use Rattle.std.proofs.Common.{refl}
use Rattle.jm_outside.specs.Shelves.{shelf_at}
use Rattle.jm_inspect.specs.World.{sink_at}
use Rattle.jm_inspect.proofs.NodeLaws.{nodes_bad, nodes_good}
use Rattle.jm_inspect.proofs.nodes.put_judged.Goals as goal

pub returns-in-Some-clause-comes : goal.returns-in-Some-clause-comes
returns-in-Some-clause-comes g c source =
    let judged = c.in_ok-given.ensures in
    nodes_bad c.args.image.now.path (shelf_at g.S.Shelf c.args.shelf.now) (shelf_at g.S.Shelf c.judge.new.shelf) judged.files source
    (sink_at g.O.Sink c.args.out.now) c.args.image.now.front c.requires c.in-Some.given (rw c.in-Some.is at judged.judged)
    (rw c.in-Some.is at judged.damage) (judged.faults.kept refl)

pub returns-in-None-clause-comes : goal.returns-in-None-clause-comes
returns-in-None-clause-comes g c source =
    let judged = c.in_ok-given.ensures in
    nodes_good c.args.image.now.path (shelf_at g.S.Shelf c.args.shelf.now) (shelf_at g.S.Shelf c.judge.new.shelf) judged.files source
    (sink_at g.O.Sink c.args.out.now) c.args.image.now.front c.requires c.put_verified.result (sink_at g.O.Sink c.put_verified.new.out)
    (rw c.in-None.is at judged.judged) (judged.faults.kept refl) c.put_verified.ensures
