use Rattle.std.proofs.Common.{◌*◌, ◌+◌, ℕ, length, ap, arith}
use Rattle.std.proofs.lemmas.Bool.{false≢true}
use Rattle.jm_pattern.specs.MatchingCosts.{line_places}
use Rattle.jm_pattern.proofs.Leading.{leads-past_any, none-past_any}
use Rattle.jm_pattern.proofs.LineSums.{places_most}
use Rattle.jm_pattern.proofs.SearchCosts.{cost-most}
use Rattle.jm_pattern.proofs.matching.is_match.Goals as goal

pub loop-behind-init : goal.loop-behind-init
loop-behind-init g c =
    let name = c.args.name.now in
    let most : ℕ = 2 * (length name + 1) in
    record {
      leads = c.in-Some.ensures.leads;
      rests = c.in-Some.ensures.rests;
      shorter = c.in-Some.ensures.shorter.in_name;
      cost = omega (
        arith,
        c.segment.ensures.cost,
        ap (λ s. length s * most) c.in-Some.ensures.end,
        cost-most most
            (line_places name) c.args.signs.now name (omega (arith, places_most name)) (omega arith),
      );
    }

pub returns-in_default-clause-cost : goal.returns-in_default-clause-cost
returns-in_default-clause-cost g c =
    let name = c.args.name.now in
    let most : ℕ = 2 * (length name + 1) in
    omega (
      arith,
      c.segment.ensures.cost,
      cost-most most (line_places name) c.args.signs.now name (omega (arith, places_most name))
          (omega arith),
    )

pub loop-behind-preserved : goal.loop-behind-preserved
loop-behind-preserved g c =
    let loop = c.loop-behind.invariant in
    let here = c.loop-behind.left in
    let next = c.in-Some-after_any.next in
    let is = c.in-Some-split_first.ensures.cases.0 in
    let most : ℕ = 2 * (length c.args.name.now + 1) in
    record {
      leads = leads-past_any c.args.signs.now c.args.name.now here.signs.now here.name.now c.in-Some-split_first.field-0-0.now
          c.in-Some-split_first.behind.now next.signs.now next.name.now loop.leads loop.rests is c.in-Some-after_any.ensures.leads;
      rests = c.in-Some-after_any.ensures.rests;
      shorter = omega (arith, c.in-Some-after_any.ensures.shorter.in_name, loop.shorter);
      cost = omega (arith, c.in-Some-after_any.ensures.cost most (omega (arith, loop.shorter)), ap (λ s. length s * most) is, loop.cost);
    }

pub returns-in_default-after_any-clause-rule : goal.returns-in_default-after_any-clause-rule
returns-in_default-after_any-clause-rule g c =
    let here = c.loop-behind.left in
    let none = none-past_any c.args.signs.now c.args.name.now here.signs.now here.name.now c.in-Some-split_first.field-0-0.now
    c.in-Some-split_first.behind.now c.loop-behind.invariant.leads c.loop-behind.invariant.rests
    c.in-Some-split_first.ensures.cases.0 c.in_default-after_any.ensures.none in
    (λ never. absurd (false≢true never), λ m. absurd (none m))

pub returns-in_default-after_any-clause-cost : goal.returns-in_default-after_any-clause-cost
returns-in_default-after_any-clause-cost g c =
    let loop = c.loop-behind.invariant in
    let most : ℕ = 2 * (length c.args.name.now + 1) in
    omega (
      arith,
      c.in_default-after_any.ensures.cost_none most (omega (arith, loop.shorter)),
      ap (λ s. length s * most)
          c.in-Some-split_first.ensures.cases.0,
      loop.cost,
    )
