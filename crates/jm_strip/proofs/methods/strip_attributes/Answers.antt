use Rattle.std.proofs.Common.{true, ◌∙◌, arith}
use Rattle.jm_class.specs.declared.class.ClassFault.TheVariants.{Short}
use Rattle.jm_class.specs.Classes.{attribute_text}
use Rattle.jm_class.specs.ClassLayout.{attribute_field}
use Rattle.jm_class.specs.Layouts.{reading}
use Rattle.jm_strip.specs.Strip.{strip_attribute}
use Rattle.jm_strip.proofs.PutLists.{put-next, list-put, list-stopped}
use Rattle.jm_strip.proofs.Shown.{walk_stop}
use Rattle.jm_strip.proofs.methods.strip_attributes.Goals as goal

pub returns-in_err-strip_attribute : goal.returns-in_err-strip_attribute
returns-in_err-strip_attribute c =
    let pool = c.args.pool.now in
    walk_stop _ _ _ c.in_err-strip_attribute.field-0.0 c.from_residual-in_err-strip_attribute.result c.strip_attribute.new.cursor
    c.strip_attribute.new.cursor c.from_residual-in_err-strip_attribute.ensures.1 c.in_err-strip_attribute.ensures
    (list-stopped Short (reading Short (attribute_field pool true)) attribute_text (strip_attribute pool) c.args.cursor.now c.number16.new.cursor
    c.in_ok-count.count c.in_ok-count.ensures c.args.text.now.items c.put16.new.text.items c.in_ok-put16.ensures
    c.loop-k._k c.loop-k.cursor c.loop-k.text.items c.loop-k-test.true c.loop-k.invariant)

pub loop-k-preserved : goal.loop-k-preserved
loop-k-preserved c =
    let pool = c.args.pool.now in
    c.loop-k.invariant ∙ put-next (reading Short (attribute_field pool true)) (λ a. attribute_text (strip_attribute pool a)) c.in_ok-count.count
    c.loop-k._k c.loop-k.cursor c.strip_attribute.new.cursor c.loop-k.text.items c.strip_attribute.new.text.items
    c.loop-k-test.true c.in_ok-strip_attribute.ensures

pub returns : goal.returns
returns c =
    let pool = c.args.pool.now in
    let ends = c.loop-k-test.false in
    list-put Short (reading Short (attribute_field pool true)) attribute_text (strip_attribute pool) c.args.cursor.now c.number16.new.cursor
    c.in_ok-count.count c.in_ok-count.ensures c.args.text.now.items c.put16.new.text.items c.in_ok-put16.ensures
    c.loop-k._k c.loop-k.cursor c.loop-k.text.items (omega (arith, ends)) c.loop-k.invariant
