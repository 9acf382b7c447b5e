use Rattle.std.proofs.Common.{arith}
use Rattle.jm_inspect.specs.declared.front.FileFront.{FileFront}
use Rattle.jm_inspect.specs.FileParts.{IsHeadOf}
use Rattle.jm_inspect.proofs.FrontLaws.{head_within, takes_none, takes_there, unextended}
use Rattle.jm_inspect.proofs.StepLaws.{from_stop}
use Rattle.jm_inspect.proofs.front.file_head.Goals as goal

pub returns-in_err-extend_front-clause-reads : goal.returns-in_err-extend_front-clause-reads
returns-in_err-extend_front-clause-reads g c =
    let told = g.S.Shelf.files c.args.shelf.now in
    let size = c.in_ok-length.length in
    let is = from_stop c.from_residual-in_err-extend_front.result _ c.from_residual-in_err-extend_front.ensures.1 in
    rw is (unextended {B = FileFront} told _ c.args.path.now c.new-bytes.result c.extend_front.new.front
    (λ head. IsHeadOf told c.args.path.now head.bytes head.length) size _ _ c.in_err-extend_front.field-0.0 c.file_length.ensures.files
    c.in_ok-length.ensures.reads c.min-count.ensures (rw c.new-bytes.ensures (head_within size)) c.in_err-extend_front.ensures.reads)

pub returns-in_err-length-clause-takes : goal.returns-in_err-length-clause-takes
returns-in_err-length-clause-takes g c =
    takes_none (g.S.Shelf.files c.args.shelf.now) c.args.path.now (λ b. 28) _ _ c.file_length.ensures.handed

pub returns-in_err-extend_front-clause-takes : goal.returns-in_err-extend_front-clause-takes
returns-in_err-extend_front-clause-takes g c =
    let first = c.file_length.ensures.handed in
    let rest = c.extend_front.ensures.handed in
    let count = c.min-count.ensures in
    takes_there (g.S.Shelf.files c.args.shelf.now) c.args.path.now (λ b. 28) c.in_ok-length.length _ _ c.in_ok-length.ensures.reads
    (λ b is. omega (arith, first, rest, count))

pub returns-clause-takes : goal.returns-clause-takes
returns-clause-takes g c =
    let first = c.file_length.ensures.handed in
    let rest = c.extend_front.ensures.handed in
    let count = c.min-count.ensures in
    takes_there (g.S.Shelf.files c.args.shelf.now) c.args.path.now (λ b. 28) c.in_ok-length.length _ _ c.in_ok-length.ensures.reads
    (λ b is. omega (arith, first, rest, count))
