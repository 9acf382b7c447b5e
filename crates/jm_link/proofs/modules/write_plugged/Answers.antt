use Rattle.jm_outside.specs.Shelves.{shelf_at}
use Rattle.jm_link.specs.Linked.{Request}
use Rattle.jm_link.specs.Links.{request_of}
use Rattle.jm_link.proofs.LinkingLaws.{fit_left, image_written}
use Rattle.jm_link.proofs.modules.write_plugged.Goals as goal

pub write_image-requires-clause-fit : goal.write_image-requires-clause-fit
write_image-requires-clause-fit g c =
    fit_left c.args.task.now.release c.args.task.now.plugins c.args.pool c.in_ok-left.left
    (rw c.as_slice.ensures at c.in_ok-left.ensures) c.requires.fit

pub returns-clause-links : goal.returns-clause-links
returns-clause-links g c =
    let asked : Request = request_of c.args.task.now in
    let acted = rw c.as_slice.ensures at c.in_ok-left.ensures in
    image_written asked c.args.modules c.args.pool c.in_ok-left.left acted
    (fit_left asked.release asked.plugins c.args.pool c.in_ok-left.left acted c.requires.fit) c.args.task.now.output
    c.write_image.result (shelf_at g.S.Shelf c.args.shelf.now) (shelf_at g.S.Shelf c.write_image.new.shelf)
    (rw c.as_slice-output.ensures at c.write_image.ensures.writes)
