use Rattle.std.proofs.Common.{◌++◌, arith}
use Rattle.jm_modinfo.specs.Written.{needs_text}
use Rattle.jm_modinfo.proofs.WrittenLoops.{needs-next, flags-next, flags-all}
use Rattle.jm_modinfo.proofs.writing.put_needs.Goals as goal

pub loop-need-preserved : goal.loop-need-preserved
loop-need-preserved c =
    let needs = c.args.needs.now in
    let i = c.loop-need.need-index in
    let number = c.loop-need.invariant.0 in (
      omega (arith, number),
      needs-next needs i c.need-item.result c.loop-need-test.true c.need-item.is c.loop-need.number c.loop-need.text.items
          c.put16.new.text.items c.put16-in-loop-need.new.text.items c.put16-in-loop-need-2.new.text.items
          (c.args.text.now.items ++ needs_text 7 needs)
          c.loop-need.invariant.1 c.in_ok-put16.ensures.text c.in_ok-put16-2.ensures.text c.in_ok-put16-3.ensures.text,
      flags-next needs i c.need-item.result c.loop-need-test.true c.need-item.is c.loop-need.invariant.2 c.in_ok-put16-2.ensures.fits,
    )

pub returns-clause-flags : goal.returns-clause-flags
returns-clause-flags c = flags-all c.args.needs.now c.loop-need.need-index c.loop-need-test.false c.loop-need.invariant.2
