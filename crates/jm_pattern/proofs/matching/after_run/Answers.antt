use Rattle.std.proofs.Common.{◌∷◌, [], length, ap, arith}
use Rattle.std.proofs.lemmas.List.Elements.{All-head}
use Rattle.jm_pattern.specs.MatchingCosts.{line_places, segment_cost}
use Rattle.jm_pattern.proofs.Leading.{leads-further, leads-run, leads-run_on, none-run_on}
use Rattle.jm_pattern.proofs.Runs.{InRun}
use Rattle.jm_pattern.proofs.SearchCosts.{cost-at_run, cost-run_byte, cost-try, none-anyway}
use Rattle.jm_pattern.specs.declared.signs.Sign.TheVariants.{Run}
use Rattle.jm_pattern.proofs.matching.after_run.Goals as goal

pub returns-in-Some-clause-leads : goal.returns-in-Some-clause-leads
returns-in-Some-clause-leads g c =
    let p = c.args.signs.now in
    let q = c.in-Some.left.signs.now in
    let o = c.in-Some.left.name.now in
    leads-further (Run ∷ p) c.args.name.now (Run ∷ p) c.loop-left.rest.now q o c.loop-left.invariant.leads
    (leads-run p c.loop-left.rest.now q o c.in-Some.ensures.leads c.in-Some.ensures.rests)

pub returns-in-Some-clause-cost : goal.returns-in-Some-clause-cost
returns-in-Some-clause-cost g c =
    let left = c.in-Some.left in
    omega (
      arith,
      c.in-Some.ensures.cost,
      c.loop-left.invariant.cost,
      cost-at_run (line_places c.loop-left.rest.now) 0
          left.signs.now left.name.now c.in-Some.ensures.rests,
    )

pub returns-then-not-takes-clause-none : goal.returns-then-not-takes-clause-none
returns-then-not-takes-clause-none g c =
    none-run_on c.args.signs.now c.args.name.now c.loop-left.rest.now c.in_ok-byte.byte.now c.in_ok-byte.after.now
    c.loop-left.invariant.leads c.in_ok-byte.ensures.cases.0 c.in_default.ensures.none (λ h. let yes = c.takes.ensures.1 h in cc)

pub returns-then-not-takes-clause-cost_none : goal.returns-then-not-takes-clause-cost_none
returns-then-not-takes-clause-cost_none g c =
    omega (arith, cost-try c.args.signs.now c.loop-left.rest.now, c.loop-left.invariant.cost, c.in_default.ensures.cost_none, c.add.ensures)

pub returns-in_err-byte-clause-cost_none : goal.returns-in_err-byte-clause-cost_none
returns-in_err-byte-clause-cost_none g c =
    none-anyway c.from_residual.result (omega (
      arith,
      cost-try c.args.signs.now c.loop-left.rest.now,
      c.loop-left.invariant.cost,
      c.in_default.ensures.cost_none,
    ))

pub loop-left-preserved : goal.loop-left-preserved
loop-left-preserved g c =
    let p = c.args.signs.now in
    let rest = c.loop-left.rest.now in
    let b = c.in_ok-byte.byte.now in
    let after = c.in_ok-byte.after.now in
    let is = c.in_ok-byte.ensures.cases.0 in
    let taken = c.takes.ensures.0 c.if-not-takes.false in
    record {
      leads = leads-run_on p c.args.name.now rest b after c.loop-left.invariant.leads is c.in_default.ensures.none taken;
      shorter = omega (arith, ap length is, c.loop-left.invariant.shorter);
      cost = omega (
        arith,
        ap (λ n. segment_cost 0 (Run ∷ p) n) is,
        cost-run_byte p b after (All-head InRun b [] taken),
        c.loop-left.invariant.cost,
        c.in_default.ensures.cost_none,
        c.add.ensures,
      );
    }
