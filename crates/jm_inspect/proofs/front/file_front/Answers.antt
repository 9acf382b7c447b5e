use Rattle.std.proofs.Common.{◌-◌, ap, sym}
use Rattle.jm_inspect.specs.declared.front.FileFront.{FileFront}
use Rattle.jm_inspect.specs.FileParts.{IsFrontOf}
use Rattle.jm_inspect.proofs.FrontLaws.{front_is, head_in_front, head_taken, index_taken, index_within, takes_index, takes_more, unextended}
use Rattle.jm_inspect.proofs.StepLaws.{from_stop}
use Rattle.jm_inspect.proofs.front.file_front.Goals as goal

pub returns-in_err-extend_front-in-Ok-clause-reads : goal.returns-in_err-extend_front-in-Ok-clause-reads
returns-in_err-extend_front-in-Ok-clause-reads g c =
    let told = g.S.Shelf.files c.args.shelf.now in
    let head = c.in_ok-bytes.field-0 in
    let found = rw c.as_slice.ensures at (sym c.in-Ok.ensures) in
    let is = from_stop c.from_residual-in_err-extend_front-in-Ok.result _ c.from_residual-in_err-extend_front-in-Ok.ensures.1 in
    rw is (unextended {B = FileFront} told _ c.args.path.now head.bytes c.extend_front.new.front
    (λ front. IsFrontOf told c.args.path.now front.bytes front.length) head.length _ _ c.in_err-extend_front-in-Ok.field-0.0
    c.file_head.ensures.files
    c.in_ok-bytes.ensures.reads.size_is (ap (λ k. k - 28) c.contents_place-count.ensures)
    (index_within told c.args.path.now head.bytes head.length c.in-Ok.header c.in_ok-bytes.ensures.reads found)
    c.in_err-extend_front-in-Ok.ensures.reads)

pub returns-in_err-extend_front-in-Ok-clause-takes : goal.returns-in_err-extend_front-in-Ok-clause-takes
returns-in_err-extend_front-in-Ok-clause-takes g c =
    let told = g.S.Shelf.files c.args.shelf.now in
    let head = c.in_ok-bytes.field-0 in
    let found = rw c.as_slice.ensures at (sym c.in-Ok.ensures) in
    takes_index told c.args.path.now head.bytes head.length c.in-Ok.header _ _ _ c.in_ok-bytes.ensures.reads found c.file_head.ensures.takes
    (rw c.contents_place-count.ensures at c.extend_front.ensures.handed)

pub returns-in_ok-extend_front-in-Ok-clause-reads : goal.returns-in_ok-extend_front-in-Ok-clause-reads
returns-in_ok-extend_front-in-Ok-clause-reads g c =
    let told = g.S.Shelf.files c.args.shelf.now in
    let head = c.in_ok-bytes.field-0 in
    let found = rw c.as_slice.ensures at (sym c.in-Ok.ensures) in
    let read = rw (c.file_head.ensures.files, c.contents_place-count.ensures) at c.in_ok-extend_front-in-Ok.ensures.reads in
    front_is told c.args.path.now head.bytes c.extend_front.new.front head.length c.in-Ok.header c.in_ok-bytes.ensures.reads found read

pub returns-in_ok-extend_front-in-Ok-clause-takes : goal.returns-in_ok-extend_front-in-Ok-clause-takes
returns-in_ok-extend_front-in-Ok-clause-takes g c =
    let told = g.S.Shelf.files c.args.shelf.now in
    let head = c.in_ok-bytes.field-0 in
    let found = rw c.as_slice.ensures at (sym c.in-Ok.ensures) in
    takes_index told c.args.path.now head.bytes head.length c.in-Ok.header _ _ _ c.in_ok-bytes.ensures.reads found c.file_head.ensures.takes
    (rw c.contents_place-count.ensures at c.extend_front.ensures.handed)

pub returns-in-Err-clause-takes : goal.returns-in-Err-clause-takes
returns-in-Err-clause-takes g c =
    takes_more (g.S.Shelf.files c.args.shelf.now) c.args.path.now _ _ _ _ head_in_front c.file_head.ensures.takes

pub returns-in_ok-extend_front-in-Ok-clause-taken : goal.returns-in_ok-extend_front-in-Ok-clause-taken
returns-in_ok-extend_front-in-Ok-clause-taken g c b whole =
    let told = g.S.Shelf.files c.args.shelf.now in
    let head = c.in_ok-bytes.field-0 in
    let found = rw c.as_slice.ensures at (sym c.in-Ok.ensures) in
    let read = rw (c.file_head.ensures.files, c.contents_place-count.ensures) at c.in_ok-extend_front-in-Ok.ensures.reads in
    index_taken told c.args.path.now head.bytes c.extend_front.new.front head.length _ c.in-Ok.header _ _ _ b c.in_ok-bytes.ensures.reads
    found read c.file_head.ensures.takes (rw c.contents_place-count.ensures at c.extend_front.ensures.handed) whole

pub returns-in-Err-clause-taken : goal.returns-in-Err-clause-taken
returns-in-Err-clause-taken g c b whole =
    head_taken (g.S.Shelf.files c.args.shelf.now) c.args.path.now _ _ b c.file_head.ensures.takes

pub returns-in_err-bytes-clause-takes : goal.returns-in_err-bytes-clause-takes
returns-in_err-bytes-clause-takes g c =
    takes_more (g.S.Shelf.files c.args.shelf.now) c.args.path.now _ _ _ _ head_in_front c.file_head.ensures.takes
