use Rattle.std.proofs.Common.{◌<◌, ◌+◌, ◌^◌, length, refl, sym, ap, ◌∙◌, arith}
use Rattle.jm_form.specs.Greedy.{greedy_among, table_lengths}
use Rattle.jm_redirect.proofs.LengthLaws.{lengths_left, lengths_all, lengths_none, among_later, among_none, next_odd, next_within}
use Rattle.jm_redirect.proofs.TableLaws.{built, built_serves, not_built}
use Rattle.jm_redirect.proofs.building.build.Goals as goal

pub loop-tried-init : goal.loop-tried-init
loop-tried-init c = record {
  enough = omega arith;
  few = omega arith;
  left = ap (greedy_among c.args.names.now) (lengths_all (length c.args.names.now));
}

pub returns-in-Some-clause-table : goal.returns-in-Some-clause-table
returns-in-Some-clause-table c =
    built c.args.names.now c.loop-tried._tried c.loop-tried.length c.in-Some.table (omega arith) (sym c.in_ok-table.ensures
    ∙ c.in-Some.is) c.loop-tried.invariant.left

pub returns-in-Some-clause-serves : goal.returns-in-Some-clause-serves
returns-in-Some-clause-serves c =
    let few : c.loop-tried.length < 2 ^ 31 = omega (arith, c.loop-tried.invariant.few, c.requires, c.loop-tried-test.true) in
    built_serves c.args.names.now c.loop-tried.length c.in-Some.table c.loop-tried.invariant.enough few (sym c.in_ok-table.ensures
    ∙ c.in-Some.is)

pub loop-tried-preserved : goal.loop-tried-preserved
loop-tried-preserved c =
    let i = c.loop-tried.invariant in
    let none = not_built c.args.names.now c.loop-tried.length (sym c.in_ok-table.ensures ∙ c.in-None.is) in
    let next = next_odd c.loop-tried.length in
    let steps = next_within c.loop-tried.length in
    record {
      enough = omega (arith, i.enough, next, steps.0);
      few = omega (arith, i.few, next, steps.1);
      left = i.left ∙ among_later c.args.names.now c.loop-tried._tried c.loop-tried.length (omega arith) none
          ∙ ap (λ n. greedy_among c.args.names.now (lengths_left (c.loop-tried._tried + 1) n)) (sym next);
    }

pub returns-clause-refused : goal.returns-clause-refused
returns-clause-refused c =
    let names = c.args.names.now in
    let none = c.loop-tried.invariant.left ∙ ap (greedy_among names) (lengths_none c.loop-tried._tried c.loop-tried.length (omega arith)) in
    (refl, among_none names (table_lengths (length names)) none)
