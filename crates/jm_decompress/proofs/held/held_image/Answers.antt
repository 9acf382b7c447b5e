use Rattle.std.proofs.Common.{arith, refl}
use Rattle.jm_bytes.proofs.ResultLaws.{passed_on}
use Rattle.jm_decompress.proofs.HeldLaws.{image_held, image_refused, image_unread, not_outside}
use Rattle.jm_decompress.proofs.held.held_image.Goals as goal

pub returns-in_err-told-clause-holds : goal.returns-in_err-told-clause-holds
returns-in_err-told-clause-holds g c =
    let is = c.header-header.ensures in
    rw (passed_on c.from_residual.result _ c.from_residual.ensures.1)
    (image_refused c.args.image.index.now c.header-header.result
    (record { within = is.within; header = is.front; valid = is.sound }) _ _ c.requires.there c.in_err-told.field-0.0
    c.in_err-told.ensures.judges _)

pub returns-in_err-told-clause-faults : goal.returns-in_err-told-clause-faults
returns-in_err-told-clause-faults g c =
    let is = c.header-header.ensures in
    rw (passed_on c.from_residual.result _ c.from_residual.ensures.1)
    (record {
      count = omega arith;
      kept = λ ok. refl;
      rose = λ out. absurd (not_outside c.args.image.index.now c.header-header.result
          (record { within = is.within; header = is.front; valid = is.sound }) _ _ c.requires.there c.in_err-told.field-0.0
          c.in_err-told.ensures.judges out);
    })

pub returns-in_err-resources-clause-holds : goal.returns-in_err-resources-clause-holds
returns-in_err-resources-clause-holds g c =
    let is = c.header-header.ensures in
    let told = c.in_ok-told in
    rw (passed_on c.from_residual-in_err-resources.result _ c.from_residual-in_err-resources.ensures.1)
    (image_unread c.args.image.index.now c.header-header.result
    (record { within = is.within; header = is.front; valid = is.sound }) _ _ c.requires.there told.told.resources
    (λ b file. (told.ensures.judges b file).named) _ _ c.in_err-resources.ensures.handed c.in_err-resources.field-0.0)

pub returns-clause-holds : goal.returns-clause-holds
returns-clause-holds g c =
    let is = c.header-header.ensures in
    let told = c.in_ok-told in
    let read = c.in_ok-resources in
    image_held c.args.image.index.now c.header-header.result
    (record { within = is.within; header = is.front; valid = is.sound }) _ _ c.requires.there told.told.resources
    (λ b file. (told.ensures.judges b file).named) read.resources read.ensures.held told.told.order told.ensures.judges _ _
    read.ensures.handed
