use Rattle.std.proofs.Common.{ap}
use Rattle.jm_class.proofs.LayoutLaws.{whole-says}
use Rattle.jm_class.proofs.ReadingLaws.{bytes_all}
use Rattle.jm_class.proofs.WholeReadings.{ended-all, ended-rest, ended-stop}
use Rattle.jm_modinfo.proofs.InfoLaws.{without_main}
use Rattle.jm_modinfo.proofs.Stops.{answers_stop}
use Rattle.jm_class.specs.Layouts.{reading, value_of}
use Rattle.jm_modinfo.specs.ModuleLayout.{module_layout}
use Rattle.jm_modinfo.specs.declared.faults.InfoFault.TheVariants.{Short, Rest}
use Rattle.jm_modinfo.proofs.describing.whole_module.Goals as goal

pub returns-in_err-descriptor-clause-info : goal.returns-in_err-descriptor-clause-info
returns-in_err-descriptor-clause-info c =
    answers_stop (λ d. d) (λ d. d) _ _ c.in_err-descriptor.field-0.0 c.from_residual.result c.module.new.cursor
    c.from_residual.ensures.1 c.in_err-descriptor.ensures.module
    (λ fault stops. ap value_of (ended-stop Rest (reading Short (module_layout c.args.texts.now.pool)) (record {
      place = 0;
      bytes =
          c.args.body.now;
    }) fault (rw c.new-cursor.ensures at stops)))

pub returns-then-len-ne0-clause-info : goal.returns-then-len-ne0-clause-info
returns-then-len-ne0-clause-info c =
    rw c.place.ensures
    (ap value_of (ended-rest Rest (reading Short (module_layout c.args.texts.now.pool)) (record { place = 0; bytes = c.args.body.now })
    c.module.new.cursor c.in_ok-descriptor.descriptor c.len.result (rw c.new-cursor.ensures at c.in_ok-descriptor.ensures.module)
    c.len.ensures c.if-len-ne0.true))

pub returns-clause-info : goal.returns-clause-info
returns-clause-info c =
    ap value_of (ended-all Rest (reading Short (module_layout c.args.texts.now.pool)) (record { place = 0; bytes = c.args.body.now })
    c.module.new.cursor c.in_ok-descriptor.descriptor c.len.result (rw c.new-cursor.ensures at c.in_ok-descriptor.ensures.module)
    c.len.ensures c.if-len-ne0.false)

pub returns-clause-says : goal.returns-clause-says
returns-clause-says c =
    without_main c.args.texts.now.pool c.args.body.now c.in_ok-descriptor.descriptor (returns-clause-info c)
    (whole-says Short Rest (module_layout c.args.texts.now.pool) c.args.body.now c.in_ok-descriptor.descriptor
    (bytes_all c.args.body.now (λ i. (c.type_inv.body i).fits)) (returns-clause-info c))
