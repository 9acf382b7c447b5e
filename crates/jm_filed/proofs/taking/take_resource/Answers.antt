use Rattle.std.proofs.Common.{◌∙◌, of_calls, rules, subst, sym}
use Rattle.std.proofs.lemmas.List.Elements.{All-push}
use Rattle.jm_names.specs.ByName.{Named}
use Rattle.jm_reader.specs.Listing.{entry_listed, handed}
use Rattle.jm_filed.specs.Filed.{IsWithin}
use Rattle.jm_filed.specs.Parts.{named}
use Rattle.jm_filed.specs.declared.taking.TakenEntry.{TakenEntry}
use Rattle.jm_filed.specs.Taken.{LieWithin, is_taken}
use Rattle.jm_filed.proofs.TakingLaws.{taken_left, taken_pushed}
use Rattle.jm_filed.proofs.taking.take_resource.Goals as goal
use Rattle.jm_filed.proofs.taking.take_resource.Goals.{then-is_included+in_ok-push, else-is_included}

pub returns-clause-taken : goal.returns-clause-taken
returns-clause-taken c b file =
    let e : Named = named (entry_listed b (handed c.args.entry)) in
    elim c.if-is_included.branch [
      | then-is_included+in_ok-push w ↦
          taken_pushed (is_taken c.args.include.now) b c.args.list.now c.if-is_included.list
          (record { name = w.of.result; content = w.of-then-is_included.result }) e
          (λ i. (w.of.ensures i, w.of-then-is_included.ensures.content b file i)) (search (rules, of_calls))
          (w.list-is ∙ w.in_ok-push.ensures.ok)
      | else-is_included w ↦
          taken_left (is_taken c.args.include.now) b c.args.list.now c.if-is_included.list e (search (rules, of_calls)) w.list-is
    ]

pub returns-clause-within : goal.returns-clause-within
returns-clause-within c before =
    let size = c.args.index.now.length in
    elim c.if-is_included.branch [
      | then-is_included+in_ok-push w ↦
          subst (LieWithin size) (sym (w.list-is ∙ w.in_ok-push.ensures.ok))
          (All-push (λ (t : TakenEntry). IsWithin size t.content) c.args.list.now
          (record { name = w.of.result; content = w.of-then-is_included.result }) before w.of-then-is_included.ensures.within)
      | else-is_included w ↦ subst (LieWithin size) (sym w.list-is) before
    ]
