use Rattle.std.proofs.Common.{refl}
use Rattle.jm_extract.specs.Extracted.{extracted}
use Rattle.jm_outside.specs.Shelves.{shelf_at}
use Rattle.jm_inspect.specs.World.{sink_at, world}
use Rattle.jm_inspect.proofs.ExtractLaws.{extract_does, extract_put, extract_stopped}
use Rattle.jm_inspect.proofs.StepLaws.{from_stop}
use Rattle.jm_inspect.proofs.extract.extract_file.Goals as goal

pub returns-in_err-count-clause-comes : goal.returns-in_err-count-clause-comes
returns-in_err-count-clause-comes g c source =
    let dir = c.args.work.dir.now in
    let include = c.args.work.include.now in
    let did = c.in_err-count.ensures in
    let out = sink_at g.O.Sink c.args.out.now in
    let old = world (shelf_at g.S.Shelf c.args.shelf.now) source out in
    let new = world (shelf_at g.S.Shelf c.extract_counted.new.shelf) source out in
    let is = from_stop c.from_residual.result _ c.from_residual.ensures.1 in
    rw is (extract_does dir include _ c.args.image.now.front _ old new c.requires.there
    (λ b filed. extract_stopped dir (extracted b include) old new refl _ (did.extracts b filed)
    (λ failed. did.faults.rose (rw failed refl)) refl))

pub returns-clause-comes : goal.returns-clause-comes
returns-clause-comes g c source =
    let dir = c.args.work.dir.now in
    let include = c.args.work.include.now in
    let did = c.in_ok-count.ensures in
    let old = world (shelf_at g.S.Shelf c.args.shelf.now) source (sink_at g.O.Sink c.args.out.now) in
    let new = world (shelf_at g.S.Shelf c.extract_counted.new.shelf) source (sink_at g.O.Sink c.put_count.new.out) in
    extract_does dir include _ c.args.image.now.front c.put_count.result old new c.requires.there
    (λ b filed. extract_put dir (extracted b include) old new refl _ c.put_count.result (did.extracts b filed) did.whole did.durable
    (did.faults.kept refl) c.put_count.ensures)
