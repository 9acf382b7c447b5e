use Rattle.std.proofs.Common.{◌≡◌, ◌∷◌, ◌∙◌, length, ap, sym, arith, rules}
use Rattle.jm_pattern.specs.MatchingCosts.{behind_segment, segment_cost}
use Rattle.jm_pattern.proofs.Leading.{leads-further}
use Rattle.jm_pattern.specs.declared.signs.Sign.TheVariants.{Run}
use Rattle.jm_pattern.proofs.matching.other_blocks.Goals as goal

pub loop-behind-preserved : goal.loop-behind-preserved
loop-behind-preserved g c =
    let loop = c.loop-behind.invariant in
    let here = c.loop-behind.left in
    let next = c.in_ok-left.left in
    let cases = c.in-Some-Run-default.ensures.cases.0 in
    let run = c.in-Some-Run-default.field-0-0-is in
    let is : here.signs.now ≡ Run ∷ c.in-Some-Run-default.behind.now = search rules in
    let more = c.in_ok-left.ensures in
    record {
      leads = leads-further c.args.first.signs.now c.args.first.name.now (Run ∷ c.in-Some-Run-default.behind.now) here.name.now
          next.signs.now next.name.now (rw is at loop.leads) more.leads;
      rests = more.rests;
      shorter = record {
        in_signs = omega (arith, ap length is, more.shorter.in_signs, loop.shorter.in_signs);
        in_name = omega (arith, more.shorter.in_name, loop.shorter.in_name);
      };
      end = more.end ∙ sym (ap behind_segment is) ∙ loop.end;
      cost = omega (arith, ap (λ s. segment_cost 0 s here.name.now) is, more.cost, loop.cost);
    }

pub returns-in_err-left-clause-cost : goal.returns-in_err-left-clause-cost
returns-in_err-left-clause-cost g c =
    let cases = c.in-Some-Run-default.ensures.cases.0 in
    let run = c.in-Some-Run-default.field-0-0-is in
    let is : c.loop-behind.left.signs.now ≡ Run ∷ c.in-Some-Run-default.behind.now = search rules in
    omega (
      arith,
      ap (λ s. segment_cost 0 s c.loop-behind.left.name.now) is,
      c.in_err-left.ensures.cost_none,
      c.loop-behind.invariant.cost,
    )
