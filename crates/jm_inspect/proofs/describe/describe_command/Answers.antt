use Rattle.std.proofs.Common.{◌≡◌, refl}
use Rattle.jm_inspect.specs.Outcome.{describe_outcome, reading}
use Rattle.jm_outside.specs.Shelves.{shelf_at}
use Rattle.jm_inspect.specs.World.{sink_at, world}
use Rattle.jm_inspect.proofs.OutcomeLaws.{describe_session}
use Rattle.jm_inspect.proofs.StepLaws.{file_read, file_unread, put_comes}
use Rattle.jm_inspect.proofs.describe.describe_command.Goals as goal

pub returns-in-Ok-clause-comes : goal.returns-in-Ok-clause-comes
returns-in-Ok-clause-comes g c source =
    let read = c.in-Ok.ensures in
    let path = c.args.path.now in
    let b = c.in-Ok.bytes in
    let put = rw (c.as_slice.ensures, c.as_slice-in-Ok.ensures) at c.put_described.ensures in
    file_read (λ bytes due. due ≡ describe_outcome c.args.release path bytes) path b (shelf_at g.S.Shelf c.args.shelf.now)
    (world (shelf_at g.S.Shelf c.file_bytes.new.shelf) source (sink_at g.O.Sink c.args.out.now))
    _ _ read.reads read.files (read.faults.kept refl)
    (put_comes (λ due. due ≡ describe_outcome c.args.release path b) reading (describe_outcome c.args.release path b) _ _ _ refl put refl refl
    (describe_session c.args.release path b) (λ ok. (refl, refl)))

pub returns-in-Err-clause-comes : goal.returns-in-Err-clause-comes
returns-in-Err-clause-comes g c source =
    let read = c.in-Err.ensures in
    file_unread _ c.args.path.now c.in-Err.stop _ _ read.reads (record { files = read.files; source = refl; output = refl })
    (λ failed. read.faults.rose (rw failed refl))
