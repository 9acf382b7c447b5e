use Rattle.std.proofs.Common.{◌≡◌, of_calls, rules}
use Rattle.std.proofs.lemmas.List.{nil_from_length}
use Rattle.jm_relink.proofs.GroupingLaws.{grouped_all, grouped_first, grouped_next, infos_all, within_all}
use Rattle.jm_relink.proofs.groups.described_modules.Goals as goal

pub loop-entry-init : goal.loop-entry-init
loop-entry-init c =
    let rest = c.into_iter-entry-iterator.result.rest.items in
    let whole : rest ≡ c.args.entries = search (rules, of_calls) in
    record {
      can = tt;
      ends = tt;
      so_far = grouped_first c.args.entries c.new-done.result rest c.new-done.ensures whole;
    }

pub loop-entry-preserved : goal.loop-entry-preserved
loop-entry-preserved c =
    let before = c.loop-entry in
    let next = c.in_ok-current in
    record {
      can = tt;
      ends = tt;
      so_far = grouped_next c.args.entries before.done c.with_entry.new.done before.current next.current c.in-Some.entry
          before.entry-iterator.rest.items c.next.new.self.rest.items before.invariant.so_far c.in-Some.ensures.steps.0
          next.ensures.group next.ensures.info next.ensures.infos next.ensures.within;
    }

pub returns-clause-groups : goal.returns-clause-groups
returns-clause-groups c b = search (rules, nil_from_length, grouped_all)

pub returns-clause-infos : goal.returns-clause-infos
returns-clause-infos c = search (rules, infos_all)

pub returns-clause-within : goal.returns-clause-within
returns-clause-within c =
    let before = c.loop-entry in
    within_all c.args.entries before.done c.push_some.new.list before.current before.entry-iterator.rest.items c.described.result
    before.invariant.so_far c.in_ok-push_some.ensures c.described.ensures.within
