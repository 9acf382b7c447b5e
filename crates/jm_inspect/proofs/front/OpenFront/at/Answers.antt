use Rattle.jm_form.specs.Damages.{first_damage}
use Rattle.jm_form.proofs.Validity.{valid_sound}
use Rattle.jm_inspect.proofs.FrontLaws.{front_opened, front_unopened}
use Rattle.jm_inspect.proofs.StepLaws.{from_stop}
use Rattle.jm_inspect.proofs.front.OpenFront.at.Goals as goal

pub returns-clause-opens : goal.returns-clause-opens
returns-clause-opens g c =
    let front = c.in_ok-front.field-0 in
    let is = rw c.as_slice-bytes.ensures at c.in_ok-index.ensures.same in
    let valid = rw c.as_slice-bytes.ensures at c.in_ok-index.ensures.valid in
    front_opened first_damage (g.S.Shelf.files c.args.shelf.now) c.args.path.now front.bytes front.length _ is c.in_ok-front.ensures.reads
    (λ b file. valid_sound b (valid b file))

pub returns-in_err-index-clause-opens : goal.returns-in_err-index-clause-opens
returns-in_err-index-clause-opens g c =
    let front = c.in_ok-front.field-0 in
    let is = from_stop c.from_residual-in_err-index.result _ c.from_residual-in_err-index.ensures.1 in
    let damaged = rw c.as_slice-bytes.ensures at c.in_err-index.ensures.damaged in
    rw is (front_unopened first_damage (g.S.Shelf.files c.args.shelf.now) c.args.path.now front.bytes front.length _
    c.in_ok-front.ensures.reads damaged)
