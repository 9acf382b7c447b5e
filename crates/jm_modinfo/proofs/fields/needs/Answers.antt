use Rattle.std.proofs.Common.{◌∙◌, refl}
use Rattle.jm_class.proofs.ListReadings.{counted-next, counted-stop}
use Rattle.jm_class.proofs.Stops.{gives_stop}
use Rattle.jm_class.specs.Layouts.{reading}
use Rattle.jm_modinfo.specs.ModuleLayout.{need}
use Rattle.jm_modinfo.specs.declared.faults.InfoFault.TheVariants.{Short}
use Rattle.jm_modinfo.proofs.fields.needs.Goals as goal

pub returns-in_err-name-clause-needs : goal.returns-in_err-name-clause-needs
returns-in_err-name-clause-needs c =
    let class = c.loop-k.invariant.0 in
    gives_stop (λ x. x) (λ xs. xs) _ _ c.in_err-name.field-0.0 c.from_residual-in_err-name.result c.name.new.cursor
    c.name.new.cursor c.from_residual-in_err-name.ensures.1 c.in_err-name.ensures.text
    (λ fault stops. let stop = rw class at stops in
    c.loop-k.invariant.1 ∙ counted-stop c.in_ok-count.count c.loop-k._k (reading Short (need c.args.texts.now.pool))
    c.loop-k.needs c.loop-k.cursor fault c.loop-k-test.true (rw stop refl))

pub returns-in_err-flags-clause-needs : goal.returns-in_err-flags-clause-needs
returns-in_err-flags-clause-needs c =
    let class = c.loop-k.invariant.0 in
    let name = rw class at c.in_ok-name.ensures.text in
    gives_stop (λ x. x) (λ xs. xs) _ _ c.in_err-flags.field-0.0 c.from_residual-in_err-flags.result c.number-in-loop-k.new.cursor
    c.number-in-loop-k.new.cursor c.from_residual-in_err-flags.ensures.1 c.in_err-flags.ensures
    (λ fault stops. c.loop-k.invariant.1 ∙ counted-stop c.in_ok-count.count c.loop-k._k (reading Short (need c.args.texts.now.pool))
    c.loop-k.needs c.loop-k.cursor fault c.loop-k-test.true (rw (name, stops) refl))

pub returns-in_err-version-clause-needs : goal.returns-in_err-version-clause-needs
returns-in_err-version-clause-needs c =
    let class = c.loop-k.invariant.0 in
    let name = rw class at c.in_ok-name.ensures.text in
    gives_stop (λ x. x) (λ xs. xs) _ _ c.in_err-version.field-0.0 c.from_residual-in_err-version.result c.version.new.cursor
    c.version.new.cursor c.from_residual-in_err-version.ensures.1 c.in_err-version.ensures.version
    (λ fault stops. let stop = rw (c.in_ok-name.ensures.class, class) at stops in
    c.loop-k.invariant.1 ∙ counted-stop c.in_ok-count.count c.loop-k._k (reading Short (need c.args.texts.now.pool))
    c.loop-k.needs c.loop-k.cursor fault c.loop-k-test.true (rw (name, c.in_ok-flags.ensures, stop) refl))

pub loop-k-preserved : goal.loop-k-preserved
loop-k-preserved c =
    let class = c.loop-k.invariant.0 in
    let name = rw class at c.in_ok-name.ensures.text in
    let version = rw (c.in_ok-name.ensures.class, class) at c.in_ok-version.ensures.version in (
      c.in_ok-version.ensures.class ∙ c.in_ok-name.ensures.class ∙ class,
      rw c.in_ok-push.ensures.ok
          (c.loop-k.invariant.1 ∙ counted-next c.in_ok-count.count c.loop-k._k (reading Short (need c.args.texts.now.pool)) c.loop-k.needs
          c.loop-k.cursor c.version.new.cursor (record { name = c.in_ok-name.name; flags = c.in_ok-flags.flags; version = c.in_ok-version.version })
          c.loop-k-test.true (rw (name, c.in_ok-flags.ensures, version) refl)),
    )
