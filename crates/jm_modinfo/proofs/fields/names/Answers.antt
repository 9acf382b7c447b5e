use Rattle.std.proofs.Common.{◌∙◌}
use Rattle.jm_class.proofs.ListReadings.{counted-next, counted-stop}
use Rattle.jm_class.proofs.Stops.{gives_stop}
use Rattle.jm_class.specs.Layouts.{reading}
use Rattle.jm_modinfo.specs.ModuleLayout.{named}
use Rattle.jm_modinfo.specs.declared.faults.InfoFault.TheVariants.{Short}
use Rattle.jm_modinfo.proofs.fields.names.Goals as goal

pub returns-in_err-name-clause-names : goal.returns-in_err-name-clause-names
returns-in_err-name-clause-names c =
    let class = c.loop-k.invariant.0 in
    gives_stop (λ x. x) (λ xs. xs) _ _ c.in_err-name.field-0.0 c.from_residual-in_err-name.result c.name.new.cursor
    c.name.new.cursor c.from_residual-in_err-name.ensures.1 c.in_err-name.ensures.text
    (λ fault stops. c.loop-k.invariant.1 ∙ counted-stop c.in_ok-count.count c.loop-k._k (reading Short (named c.args.texts.now.pool c.args.kind))
    c.loop-k.names c.loop-k.cursor fault c.loop-k-test.true (rw class at stops))

pub loop-k-preserved : goal.loop-k-preserved
loop-k-preserved c =
    let class = c.loop-k.invariant.0 in (
      c.in_ok-name.ensures.class ∙ class,
      rw c.in_ok-push.ensures.ok
          (c.loop-k.invariant.1 ∙ counted-next c.in_ok-count.count c.loop-k._k (reading Short (named c.args.texts.now.pool c.args.kind))
          c.loop-k.names c.loop-k.cursor c.name.new.cursor c.in_ok-name.name c.loop-k-test.true (rw class at c.in_ok-name.ensures.text)),
    )
