use Rattle.std.proofs.Common.{◌∙◌, refl}
use Rattle.jm_class.proofs.ListReadings.{counted-next, counted-stop}
use Rattle.jm_class.proofs.Stops.{gives_stop}
use Rattle.jm_class.specs.Layouts.{reading}
use Rattle.jm_modinfo.specs.ModuleLayout.{opened}
use Rattle.jm_modinfo.specs.declared.faults.InfoFault.TheVariants.{Short}
use Rattle.jm_modinfo.proofs.fields.all_opened.Goals as goal

pub returns-in_err-package-clause-all : goal.returns-in_err-package-clause-all
returns-in_err-package-clause-all c =
    let class = c.loop-k.invariant.0 in
    gives_stop (λ x. x) (λ xs. xs) _ _ c.in_err-package.field-0.0 c.from_residual-in_err-package.result c.name.new.cursor
    c.name.new.cursor c.from_residual-in_err-package.ensures.1 c.in_err-package.ensures.text
    (λ fault stops. let stop = rw class at stops in
    c.loop-k.invariant.1 ∙ counted-stop c.in_ok-count.count c.loop-k._k (reading Short (opened c.args.texts.now.pool))
    c.loop-k.all c.loop-k.cursor fault c.loop-k-test.true (rw stop refl))

pub returns-in_err-flags-clause-all : goal.returns-in_err-flags-clause-all
returns-in_err-flags-clause-all c =
    let class = c.loop-k.invariant.0 in
    let name = rw class at c.in_ok-package.ensures.text in
    gives_stop (λ x. x) (λ xs. xs) _ _ c.in_err-flags.field-0.0 c.from_residual-in_err-flags.result c.number-in-loop-k.new.cursor
    c.number-in-loop-k.new.cursor c.from_residual-in_err-flags.ensures.1 c.in_err-flags.ensures
    (λ fault stops. c.loop-k.invariant.1 ∙ counted-stop c.in_ok-count.count c.loop-k._k (reading Short (opened c.args.texts.now.pool))
    c.loop-k.all c.loop-k.cursor fault c.loop-k-test.true (rw (name, stops) refl))

pub returns-in_err-to-clause-all : goal.returns-in_err-to-clause-all
returns-in_err-to-clause-all c =
    let class = c.loop-k.invariant.0 in
    let name = rw class at c.in_ok-package.ensures.text in
    gives_stop (λ x. x) (λ xs. xs) _ _ c.in_err-to.field-0.0 c.from_residual-in_err-to.result c.names.new.cursor
    c.names.new.cursor c.from_residual-in_err-to.ensures.1 c.in_err-to.ensures.names
    (λ fault stops. let stop = rw (c.in_ok-package.ensures.class, class) at stops in
    c.loop-k.invariant.1 ∙ counted-stop c.in_ok-count.count c.loop-k._k (reading Short (opened c.args.texts.now.pool))
    c.loop-k.all c.loop-k.cursor fault c.loop-k-test.true (rw (name, c.in_ok-flags.ensures, stop) refl))

pub loop-k-preserved : goal.loop-k-preserved
loop-k-preserved c =
    let class = c.loop-k.invariant.0 in
    let name = rw class at c.in_ok-package.ensures.text in
    let to = rw (c.in_ok-package.ensures.class, class) at c.in_ok-to.ensures.names in (
      c.in_ok-to.ensures.class ∙ c.in_ok-package.ensures.class ∙ class,
      rw c.in_ok-push.ensures.ok
          (c.loop-k.invariant.1 ∙ counted-next c.in_ok-count.count c.loop-k._k (reading Short (opened c.args.texts.now.pool)) c.loop-k.all
          c.loop-k.cursor c.names.new.cursor (record { «package» = c.in_ok-package.package; flags = c.in_ok-flags.flags; to = c.in_ok-to.to })
          c.loop-k-test.true (rw (name, c.in_ok-flags.ensures, to) refl)),
    )
