use Rattle.std.proofs.Common.{◌∙◌, refl}
use Rattle.jm_class.proofs.ListReadings.{counted-next, counted-stop}
use Rattle.jm_class.proofs.Stops.{gives_stop}
use Rattle.jm_class.specs.Layouts.{reading}
use Rattle.jm_modinfo.specs.ModuleLayout.{provides}
use Rattle.jm_modinfo.specs.declared.faults.InfoFault.TheVariants.{Short}
use Rattle.jm_modinfo.proofs.fields.all_provides.Goals as goal

pub returns-in_err-service-clause-all : goal.returns-in_err-service-clause-all
returns-in_err-service-clause-all c =
    let class = c.loop-k.invariant.0 in
    gives_stop (λ x. x) (λ xs. xs) _ _ c.in_err-service.field-0.0 c.from_residual-in_err-service.result c.name.new.cursor
    c.name.new.cursor c.from_residual-in_err-service.ensures.1 c.in_err-service.ensures.text
    (λ fault stops. let stop = rw class at stops in
    c.loop-k.invariant.1 ∙ counted-stop c.in_ok-count.count c.loop-k._k (reading Short (provides c.args.texts.now.pool))
    c.loop-k.all c.loop-k.cursor fault c.loop-k-test.true (rw stop refl))

pub returns-in_err-classes-clause-all : goal.returns-in_err-classes-clause-all
returns-in_err-classes-clause-all c =
    let class = c.loop-k.invariant.0 in
    let service = rw class at c.in_ok-service.ensures.text in
    gives_stop (λ x. x) (λ xs. xs) _ _ c.in_err-classes.field-0.0 c.from_residual-in_err-classes.result c.names.new.cursor
    c.names.new.cursor c.from_residual-in_err-classes.ensures.1 c.in_err-classes.ensures.names
    (λ fault stops. let stop = rw (c.in_ok-service.ensures.class, class) at stops in
    c.loop-k.invariant.1 ∙ counted-stop c.in_ok-count.count c.loop-k._k (reading Short (provides c.args.texts.now.pool))
    c.loop-k.all c.loop-k.cursor fault c.loop-k-test.true (rw (service, stop) refl))

pub loop-k-preserved : goal.loop-k-preserved
loop-k-preserved c =
    let class = c.loop-k.invariant.0 in
    let service = rw class at c.in_ok-service.ensures.text in
    let classes = rw (c.in_ok-service.ensures.class, class) at c.in_ok-classes.ensures.names in (
      c.in_ok-classes.ensures.class ∙ c.in_ok-service.ensures.class ∙ class,
      rw c.in_ok-push.ensures.ok
          (c.loop-k.invariant.1 ∙ counted-next c.in_ok-count.count c.loop-k._k (reading Short (provides c.args.texts.now.pool)) c.loop-k.all
          c.loop-k.cursor c.names.new.cursor (record { service = c.in_ok-service.service; classes = c.in_ok-classes.classes })
          c.loop-k-test.true (rw (service, classes) refl)),
    )
