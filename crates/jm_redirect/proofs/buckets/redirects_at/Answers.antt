use Rattle.std.proofs.Common.{rules, ◌≡◌, replicate, false, IsPermutation, sym, subst, ◌∙◌, arith}
use Rattle.std.proofs.lemmas.List.{length-replicate}
use Rattle.jm_form.specs.declared.table.Redirect.TheVariants as redirect
use Rattle.jm_form.specs.Greedy.{buckets_in_turn}
use Rattle.jm_redirect.specs.Marks.{AllWithin}
use Rattle.jm_redirect.specs.Turns.{turns_of}
use Rattle.jm_redirect.proofs.ReachedLaws.{reached_start, turns_within}
use Rattle.jm_redirect.proofs.TurnLaws.{sorted_in_turn}
use Rattle.jm_redirect.proofs.buckets.redirects_at.Goals as goal

pub names_in_turn-requires : goal.names_in_turn-requires
names_in_turn-requires c =
    let slots = c.args.slots in
    let names = c.args.names.now in
    let d = c.in_ok-turns.ensures in
    let moved = subst (λ hashes. IsPermutation (turns_of hashes slots) c.in_ok-turns.turns.items) c.requires.hashes d.moved in
    let sorted = sorted_in_turn names slots c.in_ok-turns.turns.items (λ some. omega arith) moved d.order in
    subst (AllWithin names) (sym (c.as_slice.ensures.value ∙ sorted)) (turns_within names slots (buckets_in_turn names slots))

pub give_all-requires-clause-reached : goal.give_all-requires-clause-reached
give_all-requires-clause-reached c =
    let slots = c.args.slots in
    let names = c.args.names.now in
    let d = c.in_ok-turns.ensures in
    let moved = subst (λ hashes. IsPermutation (turns_of hashes slots) c.in_ok-turns.turns.items) c.requires.hashes d.moved in
    let sorted = sorted_in_turn names slots c.in_ok-turns.turns.items (λ some. omega arith) moved d.order in
    let free : c.in_ok-taken.taken.items ≡ replicate slots false = search rules in
    let none : c.in_ok-redirects.redirects.items ≡ replicate slots redirect.Nowhere = search rules in
    let flags = c.deref_mut.ensures.value ∙ free in
    let redirects = c.deref_mut-3.ensures.value ∙ none in
    rw (flags, redirects, length-replicate slots redirect.Nowhere) (reached_start names slots c.as_slice-2.result.now
    (c.as_slice-2.ensures.value ∙ sorted))
