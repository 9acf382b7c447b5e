use Rattle.std.proofs.Common.{sym, ◌∙◌}
use Rattle.jm_class.specs.Views.{pool_of}
use Rattle.jm_modinfo.proofs.BodiesLaws.{bodies-found, bodies-next, bodies-all}
use Rattle.jm_modinfo.proofs.attributes.first_named.Goals as goal

pub returns-in-Some-clause-some : goal.returns-in-Some-clause-some
returns-in-Some-clause-some c =
    sym c.loop-i.invariant ∙ bodies-found (pool_of c.args.class.now.pool) c.args.name.now c.args.attributes.now
    c.split_at.result.1.now c.loop-i.i c.index-attributes-i.result c.in-Some.bytes.now c.loop-i-test.true
    c.index-attributes-i.is (sym c.in-Some.ensures) c.split_at.ensures.back

pub loop-i-preserved : goal.loop-i-preserved
loop-i-preserved c =
    bodies-next (pool_of c.args.class.now.pool) c.args.name.now c.args.attributes.now c.loop-i.i c.index-attributes-i.result
    c.loop-i-test.true c.index-attributes-i.is (sym c.in_default.ensures) ∙ c.loop-i.invariant

pub returns-clause-none : goal.returns-clause-none
returns-clause-none c = sym c.loop-i.invariant ∙ bodies-all (pool_of c.args.class.now.pool) c.args.name.now c.args.attributes.now
    c.loop-i.i c.loop-i-test.false
