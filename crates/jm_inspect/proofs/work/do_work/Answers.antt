use Rattle.std.proofs.Common.{refl}
use Rattle.jm_form.specs.Damages.{first_damage}
use Rattle.jm_outside.specs.Shelves.{shelf_at}
use Rattle.jm_inspect.specs.Taken.{work_length}
use Rattle.jm_inspect.specs.World.{source_at}
use Rattle.jm_inspect.proofs.FrontLaws.{of_work, takes_front, takes_opened, unopened, work_behind, work_takes}
use Rattle.jm_inspect.proofs.StepLaws.{from_stop}
use Rattle.jm_inspect.proofs.work.do_work.Goals as goal

pub returns-in-Serve-clause-comes : goal.returns-in-Serve-clause-comes
returns-in-Serve-clause-comes g c = rw c.in-Serve.is c.serve_file.ensures.comes

pub returns-in-Serve-clause-takes : goal.returns-in-Serve-clause-takes
returns-in-Serve-clause-takes g c = rw c.in-Serve.is c.serve_file.ensures.takes

pub returns-in_err-front-in_default-clause-comes : goal.returns-in_err-front-in_default-clause-comes
returns-in_err-front-in_default-clause-comes g c =
    let is = from_stop c.from_residual.result _ c.from_residual.ensures.1 in
    let read = c.in_err-front-in_default.ensures in
    rw is (unopened first_damage (of_work c.args.work.now (source_at g.I.Source c.args.input.now)) c.args.image.now (shelf_at g.S.Shelf c.args.shelf.now)
    (shelf_at g.S.Shelf c.at.new.shelf) read.files _ _ _ read.opens (λ failed. read.faults.rose (rw failed refl)))

pub returns-in_err-front-in_default-clause-takes : goal.returns-in_err-front-in_default-clause-takes
returns-in_err-front-in_default-clause-takes g c =
    work_takes _ c.args.image.now c.args.work.now _ _ c.in_default.not-Serve
    (takes_front first_damage _ c.args.image.now (work_length c.args.work.now) _ _ c.in_err-front-in_default.ensures.takes)

pub returns-in_ok-front-in_default-clause-comes : goal.returns-in_ok-front-in_default-clause-comes
returns-in_ok-front-in_default-clause-comes g c =
    let read = c.in_ok-front-in_default.ensures in
    work_behind c.args.work.now c.args.image.now _ (shelf_at g.S.Shelf c.args.shelf.now) (shelf_at g.S.Shelf c.at.new.shelf)
    (shelf_at g.S.Shelf c.do_opened.new.shelf) _ _ read.files (read.faults.kept refl) (rw read.path at c.do_opened.ensures.comes)
    (source_at g.I.Source c.args.input.now)

pub returns-in_ok-front-in_default-clause-takes : goal.returns-in_ok-front-in_default-clause-takes
returns-in_ok-front-in_default-clause-takes g c =
    let read = c.in_ok-front-in_default.ensures in
    work_takes _ c.args.image.now c.args.work.now _ _ c.in_default.not-Serve
    (takes_opened first_damage _ c.args.image.now c.in_ok-front-in_default.front.front (work_length c.args.work.now) _ _ _ read.opens read.taken
    c.do_opened.ensures.takes)
