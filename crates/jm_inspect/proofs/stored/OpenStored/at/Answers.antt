use Rattle.jm_form.specs.declared.rows.Compression.TheVariants.{Allowed}
use Rattle.jm_form.specs.Damages.{stored_damage}
use Rattle.jm_form.proofs.Validity.{valid_undamaged}
use Rattle.jm_inspect.proofs.FrontLaws.{front_opened, front_unopened}
use Rattle.jm_inspect.proofs.StepLaws.{from_stop}
use Rattle.jm_inspect.proofs.stored.OpenStored.at.Goals as goal

pub returns-clause-opens : goal.returns-clause-opens
returns-clause-opens g c =
    let front = c.in_ok-front.field-0 in
    let is = rw c.as_slice-bytes.ensures at c.in_ok-index.ensures.same in
    let sound = rw c.as_slice-bytes.ensures at c.in_ok-index.ensures.sound in
    front_opened stored_damage (g.S.Shelf.files c.args.shelf.now) c.args.path.now front.bytes front.length _ is c.in_ok-front.ensures.reads
    (λ b file. let stored = sound b file in valid_undamaged Allowed b stored.0 stored.1)

pub returns-in_err-index-clause-opens : goal.returns-in_err-index-clause-opens
returns-in_err-index-clause-opens g c =
    let front = c.in_ok-front.field-0 in
    let is = from_stop c.from_residual-in_err-index.result _ c.from_residual-in_err-index.ensures.1 in
    let damaged = rw c.as_slice-bytes.ensures at c.in_err-index.ensures.damaged in
    rw is (front_unopened stored_damage (g.S.Shelf.files c.args.shelf.now) c.args.path.now front.bytes front.length _
    c.in_ok-front.ensures.reads damaged)
