use Rattle.std.proofs.Common.{◌∙◌, ℕ, List, Bor, refl, false}
use Rattle.jm_class.specs.ClassLayout.{attribute_field}
use Rattle.jm_class.specs.Layouts.{reading}
use Rattle.jm_class.proofs.Stops.{reads_stop}
use Rattle.jm_strip.specs.Walks.{nothing}
use Rattle.jm_strip.proofs.Shown.{skip-next, skip-stop}
use Rattle.jm_class.specs.declared.class.ClassFault.TheVariants.{Short}
use Rattle.jm_strip.proofs.skips.skip_attributes.Goals as goal

pub returns-in_err-name : goal.returns-in_err-name
returns-in_err-name c =
    reads_stop (λ n. n) nothing _ _ c.in_err-name.field-0.0 c.from_residual-in_err-name.result c.name.new.cursor c.name.new.cursor
    c.from_residual-in_err-name.ensures.1 c.in_err-name.ensures
    (λ fault stops. c.loop-k.invariant ∙ skip-stop (reading Short (attribute_field c.args.pool.now false)) c.in_ok-count.count c.loop-k._k
    c.loop-k.cursor c.name.new.cursor c.loop-k-test.true fault (rw stops refl))

pub returns-in_err-sized : goal.returns-in_err-sized
returns-in_err-sized c =
    reads_stop (λ (p : Bor (List ℕ)). p.now) nothing _ _ c.in_err-sized.field-0.0 c.from_residual-in_err-sized.result c.sized.new.cursor
    c.sized.new.cursor c.from_residual-in_err-sized.ensures.1 c.in_err-sized.ensures
    (λ fault stops. c.loop-k.invariant ∙ skip-stop (reading Short (attribute_field c.args.pool.now false)) c.in_ok-count.count c.loop-k._k
    c.loop-k.cursor c.sized.new.cursor c.loop-k-test.true fault (rw (c.in_ok-name.ensures, stops) refl))

pub loop-k-preserved : goal.loop-k-preserved
loop-k-preserved c = c.loop-k.invariant ∙ skip-next (reading Short (attribute_field c.args.pool.now false)) c.in_ok-count.count c.loop-k._k
    c.loop-k.cursor c.sized.new.cursor c.loop-k-test.true (rw (c.in_ok-name.ensures, c.in_ok-sized.ensures) refl)
