use Rattle.std.proofs.Common.{◌∙◌, arith}
use Rattle.jm_class.specs.Classes.{OpaqueData, opaque_text}
use Rattle.jm_class.specs.ClassLayout.{opaque_field}
use Rattle.jm_class.specs.Layouts.{reading}
use Rattle.jm_class.specs.Views.{fault_at}
use Rattle.jm_strip.specs.Strip.{stays}
use Rattle.jm_strip.proofs.Kept.{kept-next, kept-stop, kept-end, kept-stopped, kept-room, kept-patched}
use Rattle.jm_strip.proofs.Shown.{walk_stop}
use Rattle.jm_strip.proofs.lists.keep_attributes.Goals as goal

pub returns-in_err-kept : goal.returns-in_err-kept
returns-in_err-kept c =
    let test = λ (a : OpaqueData). stays c.args.in_code c.args.pool.now a.name in
    let one = reading (fault_at c.args.missing) (opaque_field c.args.pool.now) in
    walk_stop _ _ _ c.in_err-kept.field-0.0 c.from_residual-in_err-kept.result c.keep.new.cursor c.keep.new.cursor
    c.from_residual-in_err-kept.ensures.1 c.in_err-kept.ensures.kept
    (λ fault stops.
    kept-stopped opaque_text test one (fault_at c.args.missing) c.args.cursor.now c.number16.new.cursor c.args.text.now.items
    c.put16.new.text.items c.in_ok-count.count c.in_ok-count.ensures fault
    (c.loop-k.invariant.1 ∙ kept-stop opaque_text test one c.in_ok-count.count c.loop-k._k c.loop-k.cursor c.loop-k.text.items
    c.loop-k.kept fault c.loop-k-test.true stops))

pub loop-k-preserved : goal.loop-k-preserved
loop-k-preserved c =
    let before = c.loop-k.invariant.0 in
    let one = c.in_ok-kept.ensures.one in (
      omega (arith, before, one),
      c.loop-k.invariant.1 ∙ kept-next opaque_text (λ (a : OpaqueData). stays c.args.in_code c.args.pool.now a.name)
          (reading (fault_at c.args.missing) (opaque_field c.args.pool.now)) c.in_ok-count.count c.loop-k._k c.loop-k.cursor
          c.keep.new.cursor c.loop-k.text.items c.keep.new.text.items c.loop-k.kept c.in_ok-kept.field-0 c.loop-k-test.true
          c.in_ok-kept.ensures.kept,
    )

pub patch16-requires : goal.patch16-requires
patch16-requires c =
    let test = λ (a : OpaqueData). stays c.args.in_code c.args.pool.now a.name in
    let one = reading (fault_at c.args.missing) (opaque_field c.args.pool.now) in
    let ends = c.loop-k-test.false in
    let all = c.loop-k.invariant.1 ∙ kept-end opaque_text test one c.in_ok-count.count c.loop-k._k c.loop-k.cursor
    c.loop-k.text.items c.loop-k.kept (omega (arith, ends)) in
    kept-room opaque_text test one c.number16.new.cursor c.loop-k.cursor c.args.text.now.items c.put16.new.text.items
    c.loop-k.text.items c.len-at.result c.in_ok-count.count c.loop-k.kept (c.len-at.ensures ∙ c.args.text.now.ok.0)
    c.in_ok-put16.ensures all

pub returns : goal.returns
returns c =
    let test = λ (a : OpaqueData). stays c.args.in_code c.args.pool.now a.name in
    let one = reading (fault_at c.args.missing) (opaque_field c.args.pool.now) in
    let ends = c.loop-k-test.false in
    let all = c.loop-k.invariant.1 ∙ kept-end opaque_text test one c.in_ok-count.count c.loop-k._k c.loop-k.cursor
    c.loop-k.text.items c.loop-k.kept (omega (arith, ends)) in
    kept-patched (fault_at c.args.missing) opaque_text test one c.args.cursor.now c.number16.new.cursor c.loop-k.cursor
    c.args.text.now.items c.put16.new.text.items c.loop-k.text.items c.patch16.new.text.items c.len-at.result c.in_ok-count.count
    c.loop-k.kept c.in_ok-count.ensures (c.len-at.ensures ∙ c.args.text.now.ok.0) c.in_ok-put16.ensures all c.patch16.ensures
