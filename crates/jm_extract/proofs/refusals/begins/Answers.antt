use Rattle.std.proofs.Common.{rules, of_calls, sym, ap, ◌∙◌, nat_eq}
use Rattle.std.proofs.lemmas.Bool.{ltb-true, ltb-false}
use Rattle.std.proofs.lemmas.Fn.{always_returns_same}
use Rattle.std.specs.List.{starts_with}
use Rattle.jm_bytes.specs.ByteOrder.{is_before}
use Rattle.jm_filed.specs.declared.taking.TakenEntry.{TakenEntry}
use Rattle.jm_extract.proofs.FrontNames.{begins_at, begins_nowhere, parted}
use Rattle.jm_extract.proofs.refusals.begins.Goals as goal

pub returns-in-Some : goal.returns-in-Some
returns-in-Some c =
    let entries = c.args.entries.now in
    let front = c.args.front.now in
    let place = c.partition_point-place.result in
    let point = c.partition_point-place.ensures.partitioned (λ (t : TakenEntry). is_before t.name front) (always_returns_same _ _ _
    (λ a r f k. search (rules, of_calls))) (parted entries front c.requires) in
    c.begins_with.ensures
    ∙ ap (λ n. starts_with nat_eq n front) c.view.ensures
    ∙ sym (begins_at entries front place c.in-Some.entry.now c.requires point (ltb-true place _ (sym c.in-Some.ensures.lookup.0))
    (sym c.in-Some.ensures.lookup.1))

pub returns-in-None : goal.returns-in-None
returns-in-None c =
    let entries = c.args.entries.now in
    let front = c.args.front.now in
    let place = c.partition_point-place.result in
    let point = c.partition_point-place.ensures.partitioned (λ (t : TakenEntry). is_before t.name front) (always_returns_same _ _ _
    (λ a r f k. search (rules, of_calls))) (parted entries front c.requires) in
    sym (begins_nowhere entries front place point (ltb-false place _ (sym c.in-None.ensures.lookup.0)))
