use Rattle.std.proofs.Common.{refl}
use Rattle.jm_form.specs.Damages.{first_damage}
use Rattle.jm_outside.specs.Shelves.{shelf_at}
use Rattle.jm_commands.specs.LinkText.{link_text}
use Rattle.jm_commands.specs.Run.{LinkComesWith}
use Rattle.jm_inspect.specs.declared.stop.Stop.TheVariants as stop
use Rattle.jm_inspect.proofs.FrontLaws.{index_there, unopened}
use Rattle.jm_commands.proofs.LinkLaws.{asked_text, filed_put, filed_stopped, takes_filed}
use Rattle.jm_inspect.proofs.StepLaws.{from_stop}
use Rattle.jm_commands.proofs.link.link_with_image.Goals as goal

pub link_counted-requires-clause-directories : goal.link_counted-requires-clause-directories
link_counted-requires-clause-directories g c lifetimes outlives =
    (asked_text _ c.args.task c.in_ok-ordered.ordered c.args.path.now c.in_ok-image.image.front c.in_ok-image.ensures.opens
    c.in_ok-ordered.ensures c.requires.directories c.requires.output).0

pub link_counted-requires-clause-output : goal.link_counted-requires-clause-output
link_counted-requires-clause-output g c lifetimes outlives =
    (asked_text _ c.args.task c.in_ok-ordered.ordered c.args.path.now c.in_ok-image.image.front c.in_ok-image.ensures.opens
    c.in_ok-ordered.ensures c.requires.directories c.requires.output).1

pub link_counted-requires-clause-there : goal.link_counted-requires-clause-there
link_counted-requires-clause-there g c lifetimes outlives =
    let read = c.in_ok-image.ensures in
    rw (read.files, read.path) (index_there _ c.args.path.now c.in_ok-image.image.front read.opens)

pub returns-in_err-image-clause-comes : goal.returns-in_err-image-clause-comes
returns-in_err-image-clause-comes g c source =
    let is = from_stop c.from_residual.result _ c.from_residual.ensures.1 in
    let read = c.in_err-image.ensures in
    rw is (unopened first_damage (LinkComesWith link_text (g.S.Shelf.files c.args.shelf.now) c.args.task) c.args.path.now (shelf_at g.S.Shelf c.args.shelf.now)
    (shelf_at g.S.Shelf c.at.new.shelf) read.files source _ _ read.opens (λ failed. read.faults.rose (rw failed refl)))

pub returns-in_err-ordered-clause-comes : goal.returns-in_err-ordered-clause-comes
returns-in_err-ordered-clause-comes g c source =
    let is = from_stop c.from_residual-in_err-ordered.result stop.Memory c.from_residual-in_err-ordered.ensures.1 in
    let read = c.in_ok-image.ensures in
    rw is (unopened first_damage (LinkComesWith link_text (g.S.Shelf.files c.args.shelf.now) c.args.task) c.args.path.now
    (shelf_at g.S.Shelf c.args.shelf.now) (shelf_at g.S.Shelf c.at.new.shelf) read.files source _ stop.Memory tt (λ failed. cc))

pub returns-clause-comes : goal.returns-clause-comes
returns-clause-comes g c source =
    let read = c.in_ok-image.ensures in
    rw c.stop_of_link.ensures (filed_stopped link_text c.args.task c.in_ok-ordered.ordered c.args.path.now _
    (shelf_at g.S.Shelf c.at.new.shelf) (shelf_at g.S.Shelf c.link_counted.new.shelf) source _ _ read.files (read.faults.kept refl)
    c.in_ok-image.image.front read.opens c.in_ok-ordered.ensures _ _ _ (rw read.path at c.in-Err.ensures.links) c.in-Err.ensures.lacks refl)

pub returns-in-Ok-clause-comes : goal.returns-in-Ok-clause-comes
returns-in-Ok-clause-comes g c source =
    let read = c.in_ok-image.ensures in
    filed_put link_text c.args.task c.in_ok-ordered.ordered c.args.path.now _ (shelf_at g.S.Shelf c.at.new.shelf)
    (shelf_at g.S.Shelf c.link_counted.new.shelf) source _ _ read.files (read.faults.kept refl) c.in_ok-image.image.front read.opens
    c.in_ok-ordered.ensures _ _ _ _ (rw read.path at c.in-Ok.ensures.links) c.put_summary.ensures

pub returns-clause-takes : goal.returns-clause-takes
returns-clause-takes g c =
    let read = c.in_ok-image.ensures in
    takes_filed c.args.task c.in_ok-ordered.ordered c.args.path.now (shelf_at g.S.Shelf c.args.shelf.now)
    (shelf_at g.S.Shelf c.at.new.shelf) (shelf_at g.S.Shelf c.link_counted.new.shelf) c.in_ok-image.image.front _ _ _ _ read.files
    read.opens c.in_ok-ordered.ensures (rw read.path at c.in-Err.ensures.links) read.taken

pub returns-in-Ok-clause-takes : goal.returns-in-Ok-clause-takes
returns-in-Ok-clause-takes g c =
    let read = c.in_ok-image.ensures in
    takes_filed c.args.task c.in_ok-ordered.ordered c.args.path.now (shelf_at g.S.Shelf c.args.shelf.now)
    (shelf_at g.S.Shelf c.at.new.shelf) (shelf_at g.S.Shelf c.link_counted.new.shelf) c.in_ok-image.image.front _ _ _ _ read.files
    read.opens c.in_ok-ordered.ensures (rw read.path at c.in-Ok.ensures.links) read.taken
