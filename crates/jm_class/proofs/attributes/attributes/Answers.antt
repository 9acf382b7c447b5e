use Rattle.std.proofs.Common.{◌∙◌, map}
use Rattle.jm_class.specs.declared.class.ClassFault.TheVariants.{Short}
use Rattle.jm_class.specs.ClassLayout.{attribute_field}
use Rattle.jm_class.specs.Layouts.{reading}
use Rattle.jm_class.specs.Views.{pool_of, attribute_of}
use Rattle.jm_class.proofs.ListReadings.{counted-next, counted-stop}
use Rattle.jm_class.proofs.Stops.{gives_stop, map_pushed}
use Rattle.jm_class.proofs.attributes.attributes.Goals as goal

pub returns-in_err-attribute : goal.returns-in_err-attribute
returns-in_err-attribute c =
    gives_stop attribute_of (map attribute_of) _ _ c.in_err-attribute.field-0.0 c.from_residual-in_err-attribute.result
    c.attribute.new.cursor c.attribute.new.cursor c.from_residual-in_err-attribute.ensures.1 c.in_err-attribute.ensures
    (λ fault stops. c.loop-k.invariant ∙ counted-stop c.in_ok-count.count c.loop-k._k (reading Short (attribute_field (pool_of c.args.pool.now) c.args.in_method)) (map attribute_of c.loop-k.attributes) c.loop-k.cursor fault c.loop-k-test.true stops)

pub loop-k-preserved : goal.loop-k-preserved
loop-k-preserved c =
    let grown = map_pushed attribute_of c.loop-k.attributes c.push.new.self c.in_ok-attribute.attribute c.in_ok-push.ensures.ok in
    rw grown
    (c.loop-k.invariant ∙ counted-next c.in_ok-count.count c.loop-k._k (reading Short (attribute_field (pool_of c.args.pool.now) c.args.in_method))
    (map attribute_of c.loop-k.attributes) c.loop-k.cursor c.attribute.new.cursor (attribute_of c.in_ok-attribute.attribute)
    c.loop-k-test.true c.in_ok-attribute.ensures)
