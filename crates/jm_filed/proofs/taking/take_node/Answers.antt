use Rattle.std.proofs.Common.{of_calls, refl, rules, subst, sym}
use Rattle.std.proofs.lemmas.List.Elements.{All-push}
use Rattle.jm_names.specs.ByName.{Named}
use Rattle.jm_names.specs.Names.{is_node}
use Rattle.jm_reader.specs.Listing.{entry_listed, handed}
use Rattle.jm_filed.specs.Filed.{IsWithin}
use Rattle.jm_filed.specs.Parts.{named}
use Rattle.jm_filed.specs.declared.taking.TakenEntry.{TakenEntry}
use Rattle.jm_filed.specs.Taken.{LieWithin}
use Rattle.jm_filed.proofs.TakingLaws.{taken_left, taken_pushed}
use Rattle.jm_filed.proofs.taking.take_node.Goals as goal

pub returns-then-not-is_node-clause-taken : goal.returns-then-not-is_node-clause-taken
returns-then-not-is_node-clause-taken c b file =
    let e : Named = named (entry_listed b (handed c.args.entry)) in
    taken_left is_node b c.args.list.now c.args.list.now e (search (rules, of_calls)) refl

pub returns-clause-taken : goal.returns-clause-taken
returns-clause-taken c b file =
    let e : Named = named (entry_listed b (handed c.args.entry)) in
    taken_pushed is_node b c.args.list.now c.push.new.self (record { name = c.of.result; content = c.of-2.result }) e
    (λ i. (c.of.ensures i, c.of-2.ensures.content b file i)) (search (rules, of_calls)) c.in_ok-push.ensures.ok

pub returns-clause-within : goal.returns-clause-within
returns-clause-within c before =
    let size = c.args.index.now.length in
    subst (LieWithin size) (sym c.in_ok-push.ensures.ok)
    (All-push (λ (t : TakenEntry). IsWithin size t.content) c.args.list.now (record { name = c.of.result; content = c.of-2.result })
    before c.of-2.ensures.within)
