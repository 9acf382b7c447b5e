use Rattle.std.proofs.Common.{◌∙◌, sym, arith}
use Rattle.jm_pattern.specs.MatchingCosts.{line_places}
use Rattle.jm_pattern.proofs.Leading.{leads-further}
use Rattle.jm_pattern.proofs.LineSums.{places_some}
use Rattle.jm_pattern.proofs.SearchCosts.{block-begins, block-takes, cost-takes, none-anyway, shorter-takes}
use Rattle.jm_pattern.proofs.matching.block.Goals as goal

pub loop-left-preserved : goal.loop-left-preserved
loop-left-preserved g c =
    let loop = c.loop-left.invariant in
    let here = c.loop-left.left in
    let next = c.in_ok-left.left in
    let begins = c.begins_fixed.ensures.0 c.loop-left-test.true in
    let taken = c.in_ok-left.ensures.takes in
    let blocks = block-takes here.signs.now here.name.now next.signs.now next.name.now begins taken in
    let costs = cost-takes (line_places c.args.name.now) here.signs.now here.name.now next.signs.now next.name.now begins taken in
    record {
      leads = leads-further c.args.signs.now c.args.name.now here.signs.now here.name.now next.signs.now next.name.now loop.leads
          c.in_ok-left.ensures.leads;
      shorter = shorter-takes c.args.signs.now c.args.name.now here.signs.now here.name.now next.signs.now next.name.now loop.shorter taken;
      end = sym blocks.1 ∙ loop.end;
      block = omega (arith, blocks.0, loop.block, c.one_byte.ensures.cost);
      cost = omega (arith, costs, places_some c.args.name.now, loop.cost, c.one_byte.ensures.cost);
    }

pub returns-in_err-left-clause-cost_none : goal.returns-in_err-left-clause-cost_none
returns-in_err-left-clause-cost_none g c =
    let loop = c.loop-left.invariant in
    let begins = c.begins_fixed.ensures.0 c.loop-left-test.true in
    none-anyway c.from_residual.result (omega (arith, block-begins c.loop-left.left.signs.now begins, loop.block, c.one_byte.ensures.cost))
