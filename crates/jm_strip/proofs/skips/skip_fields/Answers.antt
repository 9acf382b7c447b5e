use Rattle.std.proofs.Common.{◌∙◌, refl, false}
use Rattle.jm_class.specs.ClassLayout.{attribute_field, member_field}
use Rattle.jm_class.specs.Layouts.{listed, reading}
use Rattle.jm_class.specs.declared.class.ClassFault.TheVariants.{Short}
use Rattle.jm_class.proofs.Stops.{reads_stop}
use Rattle.jm_strip.specs.Walks.{nothing}
use Rattle.jm_strip.proofs.Shown.{saw, stopped, skip-next, skip-stop}
use Rattle.jm_strip.proofs.skips.skip_fields.Goals as goal

pub returns-in_err-_access : goal.returns-in_err-_access
returns-in_err-_access c =
    reads_stop (λ n. n) nothing _ _ c.in_err-_access.field-0.0 c.from_residual-in_err-_access.result c.number16-in-loop-k.new.cursor
    c.number16-in-loop-k.new.cursor c.from_residual-in_err-_access.ensures.1 c.in_err-_access.ensures
    (λ fault stops. c.loop-k.invariant ∙ skip-stop (reading Short (member_field c.args.pool.now false)) c.in_ok-count.count c.loop-k._k
    c.loop-k.cursor c.loop-k.cursor c.loop-k-test.true fault (rw stops refl))

pub returns-in_err-_name : goal.returns-in_err-_name
returns-in_err-_name c =
    reads_stop (λ n. n) nothing _ _ c.in_err-_name.field-0.0 c.from_residual-in_err-_name.result c.number16-in-loop-k-2.new.cursor
    c.number16-in-loop-k-2.new.cursor c.from_residual-in_err-_name.ensures.1 c.in_err-_name.ensures
    (λ fault stops. c.loop-k.invariant ∙ skip-stop (reading Short (member_field c.args.pool.now false)) c.in_ok-count.count c.loop-k._k
    c.loop-k.cursor c.loop-k.cursor c.loop-k-test.true fault (rw (c.in_ok-_access.ensures, stops) refl))

pub returns-in_err-_descriptor : goal.returns-in_err-_descriptor
returns-in_err-_descriptor c =
    reads_stop (λ n. n) nothing _ _ c.in_err-_descriptor.field-0.0 c.from_residual-in_err-_descriptor.result
    c.number16-in-loop-k-3.new.cursor c.number16-in-loop-k-3.new.cursor c.from_residual-in_err-_descriptor.ensures.1
    c.in_err-_descriptor.ensures
    (λ fault stops. c.loop-k.invariant ∙ skip-stop (reading Short (member_field c.args.pool.now false)) c.in_ok-count.count c.loop-k._k
    c.loop-k.cursor c.loop-k.cursor c.loop-k-test.true fault (rw (c.in_ok-_access.ensures, c.in_ok-_name.ensures, stops) refl))

pub returns-in_err-skip_attributes : goal.returns-in_err-skip_attributes
returns-in_err-skip_attributes c =
    reads_stop (λ (a : Unit {0}). a) nothing _ _ c.in_err-skip_attributes.field-0.0 c.from_residual-in_err-skip_attributes.result
    c.skip_attributes.new.cursor c.skip_attributes.new.cursor c.from_residual-in_err-skip_attributes.ensures.1
    c.in_err-skip_attributes.ensures
    (λ fault stops.
    let attributes = stopped nothing (reading Short (listed (attribute_field c.args.pool.now false)) c.number16-in-loop-k-3.new.cursor) fault
    stops in
    c.loop-k.invariant ∙ skip-stop (reading Short (member_field c.args.pool.now false)) c.in_ok-count.count c.loop-k._k c.loop-k.cursor
    c.loop-k.cursor c.loop-k-test.true fault
    (rw (c.in_ok-_access.ensures, c.in_ok-_name.ensures, c.in_ok-_descriptor.ensures, attributes) refl))

pub loop-k-preserved : goal.loop-k-preserved
loop-k-preserved c =
    let attributes = saw nothing (reading Short (listed (attribute_field c.args.pool.now false)) c.number16-in-loop-k-3.new.cursor) tt
    c.skip_attributes.new.cursor c.in_ok-skip_attributes.ensures in
    c.loop-k.invariant ∙ skip-next (reading Short (member_field c.args.pool.now false)) c.in_ok-count.count c.loop-k._k c.loop-k.cursor
    c.skip_attributes.new.cursor c.loop-k-test.true
    (rw (c.in_ok-_access.ensures, c.in_ok-_name.ensures, c.in_ok-_descriptor.ensures, attributes.is) refl)
