use Rattle.std.proofs.Common.{◌∙◌, arith}
use Rattle.std.proofs.lemmas.Option.{IfSome_then}
use Rattle.jm_pattern.specs.MatchingCosts.{line_places}
use Rattle.jm_pattern.proofs.Leading.{leads-further}
use Rattle.jm_pattern.proofs.LineSums.{places_some}
use Rattle.jm_pattern.proofs.SearchCosts.{cost-at_run, cost-block, shorter-further}
use Rattle.jm_pattern.proofs.matching.segment.Goals as goal

pub returns-clause-leads : goal.returns-clause-leads
returns-clause-leads g c =
    let left = c.in_ok-left.left in
    IfSome_then c.other_blocks.result c.other_blocks.ensures.leads (λ next more. leads-further c.args.signs.now c.args.name.now
    left.signs.now left.name.now next.signs.now next.name.now c.in_ok-left.ensures.leads more)

pub returns-clause-shorter : goal.returns-clause-shorter
returns-clause-shorter g c =
    let left = c.in_ok-left.left in
    IfSome_then c.other_blocks.result c.other_blocks.ensures.shorter (λ next more. shorter-further c.args.signs.now c.args.name.now
    left.signs.now left.name.now next.signs.now next.name.now c.in_ok-left.ensures.shorter more)

pub returns-clause-end : goal.returns-clause-end
returns-clause-end g c =
    IfSome_then c.other_blocks.result c.other_blocks.ensures.end (λ next more. more ∙ c.in_ok-left.ensures.end)

pub returns-clause-cost : goal.returns-clause-cost
returns-clause-cost g c =
    let left = c.in_ok-left.left in
    omega (
      arith,
      c.in_ok-left.ensures.cost,
      c.other_blocks.ensures.cost,
      cost-at_run (line_places c.args.name.now) 0 left.signs.now
          left.name.now c.in_ok-left.ensures.rests,
    )

pub returns-in_err-left-clause-cost : goal.returns-in_err-left-clause-cost
returns-in_err-left-clause-cost g c =
    omega (
      arith,
      c.in_err-left.ensures.cost_none,
      cost-block (line_places c.args.name.now) c.args.signs.now c.args.name.now
          (places_some c.args.name.now),
    )
