use Rattle.std.proofs.Common.{◌∷◌, ◌*◌, length, ap, arith}
use Rattle.jm_pattern.proofs.Leading.{leads-further, leads-in_line, leads-line_on, none-line_on}
use Rattle.jm_pattern.proofs.LineSums.{over_lines, first_line}
use Rattle.jm_pattern.proofs.SearchCosts.{line_cost, none-anyway, search-most}
use Rattle.jm_pattern.specs.declared.signs.Sign.TheVariants.{AnyRun}
use Rattle.jm_pattern.proofs.matching.after_any.Goals as goal

pub returns-in-Some-clause-leads : goal.returns-in-Some-clause-leads
returns-in-Some-clause-leads g c =
    let p = c.args.signs.now in
    let q = c.in-Some.left.signs.now in
    let o = c.in-Some.left.name.now in
    leads-further (AnyRun ∷ p) c.args.name.now (AnyRun ∷ p) c.loop-left.rest.now q o c.loop-left.invariant.leads
    (leads-in_line p c.loop-left.rest.now q o c.in-Some.ensures.leads c.in-Some.ensures.rests)

pub returns-in-Some-clause-cost : goal.returns-in-Some-clause-cost
returns-in-Some-clause-cost g c = λ most h.
    omega (
      arith,
      c.in_line.ensures.cost,
      c.loop-left.invariant.cost,
      ap (λ s. length s * most) c.in-Some.ensures.end,
      search-most
          most c.args.signs.now c.args.name.now h,
    )

pub returns-in_err-rest-clause-none : goal.returns-in_err-rest-clause-none
returns-in_err-rest-clause-none g c =
    none-anyway c.from_residual.result (none-line_on c.args.signs.now c.args.name.now c.loop-left.rest.now
    c.loop-left.invariant.leads c.in_default.ensures.none c.in_err-rest.ensures.none)

pub returns-in_err-rest-clause-cost_none : goal.returns-in_err-rest-clause-cost_none
returns-in_err-rest-clause-cost_none g c =
    none-anyway c.from_residual.result (λ most h. omega (
      arith,
      c.in_line.ensures.cost,
      c.behind_slash.ensures.cost,
      c.loop-left.invariant.cost,
      search-most most c.args.signs.now c.args.name.now h,
    ))

pub loop-left-preserved : goal.loop-left-preserved
loop-left-preserved g c =
    let p = c.args.signs.now in
    let rest = c.loop-left.rest.now in
    let after = c.in_ok-rest.rest.now in
    let next = c.in_ok-rest.ensures in
    record {
      leads = leads-line_on p c.args.name.now rest after c.loop-left.invariant.leads c.in_default.ensures.none next.some;
      shorter = omega (arith, next.shorter, c.loop-left.invariant.shorter);
      cost = omega (
        arith,
        first_line (line_cost p) rest next.slash,
        ap (λ n. over_lines (line_cost p) n) next.some,
        c.in_line.ensures.cost,
        c.behind_slash.ensures.cost,
        c.loop-left.invariant.cost,
      );
    }
