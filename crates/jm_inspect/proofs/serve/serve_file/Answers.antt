use Rattle.std.proofs.Common.{refl}
use Rattle.jm_form.specs.Damages.{first_damage}
use Rattle.jm_outside.specs.Shelves.{shelf_at}
use Rattle.jm_words.specs.declared.tasks.ImageWork.TheVariants as work
use Rattle.jm_inspect.specs.World.{sink_at, source_at, world_of}
use Rattle.jm_inspect.proofs.FrontLaws.{of_work, opened_file, unopened}
use Rattle.jm_inspect.proofs.SessionLaws.{session_step}
use Rattle.jm_inspect.proofs.StepLaws.{from_stop}
use Rattle.jm_inspect.proofs.serve.serve_file.Goals as goal

pub returns-in_err-image-clause-comes : goal.returns-in_err-image-clause-comes
returns-in_err-image-clause-comes g c =
    let is = from_stop c.from_residual.result _ c.from_residual.ensures.1 in
    let input = source_at g.I.Source c.args.input.now in
    let read = c.in_err-image.ensures in
    rw is (unopened first_damage (of_work work.Serve input) c.args.path.now (shelf_at g.S.Shelf c.args.shelf.now) (shelf_at g.S.Shelf c.at.new.shelf)
    read.files input _ _ read.opens (λ failed. read.faults.rose (rw failed refl)))

pub returns-clause-comes : goal.returns-clause-comes
returns-clause-comes g c =
    let read = c.in_ok-image.ensures in
    let image = c.in_ok-image.image in
    let answered = c.serve_counted-answered in
    let serves = answered.ensures.serves in
    let input = source_at g.I.Source c.args.input.now in
    let out = sink_at g.O.Sink c.args.out.now in
    let new = world_of g.S.Shelf g.I.Source g.O.Sink c.at.new.shelf answered.new.input answered.new.out in
    let does = session_step image answered.result (world_of g.S.Shelf g.I.Source g.O.Sink c.at.new.shelf c.args.input.now c.args.out.now)
    new serves.0 serves.1 refl serves.2 answered.ensures.input_faults answered.ensures.out_faults in
    opened_file first_damage (of_work work.Serve input) c.args.path.now (shelf_at g.S.Shelf c.args.shelf.now)
    (shelf_at g.S.Shelf c.at.new.shelf) read.files input out (read.faults.kept refl) image _ new read.opens
    (rw c.stop_of_session.ensures does)
