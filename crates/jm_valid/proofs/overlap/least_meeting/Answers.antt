use Rattle.std.proofs.Common.{◌+◌, take}
use Rattle.jm_valid.proofs.Sweeping.{follows_next, some_next, swept_all, swept_first, swept_more}
use Rattle.jm_valid.proofs.overlap.least_meeting.Goals as goal

pub loop-range-init : goal.loop-range-init
loop-range-init c = rw c.in_ok-first.ensures.cases.0 (swept_first c.in_ok-first.first.now)

pub sweep_behind-sweep-requires : goal.sweep_behind-sweep-requires
sweep_behind-sweep-requires c =
    some_next c.args.ranges.now c.in_ok-first.rest.now c.in_ok-first.first.now c.loop-range.range-index (record {
      start = 0;
      slot =
          0;
      end = 0;
    }) c.in_ok-first.ensures.cases.0 c.loop-range-test.true c.requires.some

pub loop-range-preserved : goal.loop-range-preserved
loop-range-preserved c =
    let is = c.in_ok-first.ensures.cases.0 in
    let rs = c.args.ranges.now in
    let i = c.loop-range.range-index in
    let follows = follows_next rs c.in_ok-first.rest.now c.in_ok-first.first.now i (record { start = 0; slot = 0; end = 0 }) is
    c.loop-range-test.true c.requires.order in
    swept_more rs c.in_ok-first.rest.now c.in_ok-first.first.now i (record { start = 0; slot = 0; end = 0 })
    c.sweep_behind-sweep.result is c.loop-range-test.true (c.sweep_behind-sweep.ensures (take (i + 1) rs) c.loop-range.invariant
    follows)

pub returns : goal.returns
returns c =
    swept_all c.args.ranges.now c.in_ok-first.rest.now c.in_ok-first.first.now c.loop-range.range-index c.loop-range.sweep
    c.in_ok-first.ensures.cases.0 c.loop-range-test.false c.loop-range.invariant
