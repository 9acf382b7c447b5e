use Rattle.std.proofs.Common.{refl}
use Rattle.jm_decompress.specs.Decompressed.{stored_sizes}
use Rattle.jm_form.specs.Damages.{stored_damage}
use Rattle.jm_outside.specs.Shelves.{shelf_at}
use Rattle.jm_inspect.proofs.FrontLaws.{index_there, takes_front, unopened}
use Rattle.jm_inspect.proofs.StepLaws.{from_stop}
use Rattle.jm_commands.specs.Run.{DecompressComesTo}
use Rattle.jm_commands.proofs.LinkLaws.{stored_put, stored_stopped, takes_stored}
use Rattle.jm_commands.proofs.decompress.decompress_command.Goals as goal

pub decompress_counted-requires-clause-there : goal.decompress_counted-requires-clause-there
decompress_counted-requires-clause-there g c lifetimes outlives =
    let read = c.in_ok-image.ensures in
    rw (read.files, read.path) (index_there _ c.args.task.now.image c.in_ok-image.image.front read.opens)

pub returns-in_err-image-clause-comes : goal.returns-in_err-image-clause-comes
returns-in_err-image-clause-comes g c source =
    let is = from_stop c.from_residual.result _ c.from_residual.ensures.1 in
    let read = c.in_err-image.ensures in
    rw is (unopened stored_damage (DecompressComesTo c.args.task.now) c.args.task.now.image (shelf_at g.S.Shelf c.args.shelf.now)
    (shelf_at g.S.Shelf c.at.new.shelf) read.files source _ _ read.opens (λ failed. read.faults.rose (rw failed refl)))

pub returns-in_err-image-clause-takes : goal.returns-in_err-image-clause-takes
returns-in_err-image-clause-takes g c =
    takes_front stored_damage _ c.args.task.now.image stored_sizes _ _ c.in_err-image.ensures.takes

pub returns-clause-comes : goal.returns-clause-comes
returns-clause-comes g c source =
    let read = c.in_ok-image.ensures in
    rw c.stop_of_link.ensures (stored_stopped c.args.task.now (shelf_at g.S.Shelf c.args.shelf.now) (shelf_at g.S.Shelf c.at.new.shelf)
    (shelf_at g.S.Shelf c.decompress_counted.new.shelf) read.files c.in_ok-image.image.front read.opens _ _ (read.faults.kept refl)
    source _ _ _ (rw read.path at c.in-Err.ensures) refl)

pub returns-in-Ok-clause-comes : goal.returns-in-Ok-clause-comes
returns-in-Ok-clause-comes g c source =
    let read = c.in_ok-image.ensures in
    stored_put c.args.task.now (shelf_at g.S.Shelf c.args.shelf.now) (shelf_at g.S.Shelf c.at.new.shelf)
    (shelf_at g.S.Shelf c.decompress_counted.new.shelf) read.files c.in_ok-image.image.front read.opens _ _ (read.faults.kept refl)
    source _ _ _ _ (rw read.path at c.in-Ok.ensures) c.put_decompressed.ensures

pub returns-clause-takes : goal.returns-clause-takes
returns-clause-takes g c =
    let read = c.in_ok-image.ensures in
    takes_stored c.args.task.now (shelf_at g.S.Shelf c.args.shelf.now) (shelf_at g.S.Shelf c.at.new.shelf)
    (shelf_at g.S.Shelf c.decompress_counted.new.shelf) read.files c.in_ok-image.image.front read.opens _ _ _ _
    (rw read.path at c.in-Err.ensures) read.taken

pub returns-in-Ok-clause-takes : goal.returns-in-Ok-clause-takes
returns-in-Ok-clause-takes g c =
    let read = c.in_ok-image.ensures in
    takes_stored c.args.task.now (shelf_at g.S.Shelf c.args.shelf.now) (shelf_at g.S.Shelf c.at.new.shelf)
    (shelf_at g.S.Shelf c.decompress_counted.new.shelf) read.files c.in_ok-image.image.front read.opens _ _ _ _
    (rw read.path at c.in-Ok.ensures) read.taken
