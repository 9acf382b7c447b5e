use Rattle.std.proofs.Common.{◌++◌, length, sym, subst, ap, ◌∙◌, arith}
use Rattle.jm_form.specs.Greedy.{redirect_for, slots_led}
use Rattle.jm_redirect.specs.Marks.{Marks, names_at}
use Rattle.jm_redirect.specs.declared.turns.Turn.{Turn}
use Rattle.jm_redirect.proofs.ReachedLaws.{first_of, first_says, reached_next, reached_none}
use Rattle.jm_redirect.proofs.TurnLaws.{names_of_turns, same_long, front_named, back_named}
use Rattle.jm_redirect.proofs.buckets.give_first.Goals as goal

abbrev no_turn : Turn
no_turn = record { others = 0; bucket = 0; place = 0 }

pub overflow_sub-size : goal.overflow_sub-size
overflow_sub-size c =
    let r = c.requires.reached in
    let first = first_of c.args.names.now (length c.args.redirects.now) c.args.left.turns.now r.buckets c.requires.some r.left r.sound in
    (first_says c.args.names.now (length c.args.redirects.now) c.args.left.turns.now r.buckets no_turn first).others

pub split_at-requires : goal.split_at-requires
split_at-requires c =
    let r = c.requires.reached in
    let first = first_of c.args.names.now (length c.args.redirects.now) c.args.left.turns.now r.buckets c.requires.some r.left r.sound in
    (first_says c.args.names.now (length c.args.redirects.now) c.args.left.turns.now r.buckets no_turn first).room

pub split_at-requires-2 : goal.split_at-requires-2
split_at-requires-2 c =
    let r = c.requires.reached in
    let first = first_of c.args.names.now (length c.args.redirects.now) c.args.left.turns.now r.buckets c.requires.some r.left r.sound in
    let room = (first_says c.args.names.now (length c.args.redirects.now) c.args.left.turns.now r.buckets no_turn first).room in
    let same = same_long c.args.names.now c.args.left.names.now c.args.left.turns.now c.requires.named in
    omega (arith, room, same)

pub bounds-redirects-left : goal.bounds-redirects-left
bounds-redirects-left c =
    let r = c.requires.reached in
    let first = first_of c.args.names.now (length c.args.redirects.now) c.args.left.turns.now r.buckets c.requires.some r.left r.sound in
    let says = first_says c.args.names.now (length c.args.redirects.now) c.args.left.turns.now r.buckets no_turn first in
    omega (arith, says.bucket_is, first.below)

pub returns-in_err-redirect-clause-none : goal.returns-in_err-redirect-clause-none
returns-in_err-redirect-clause-none c =
    let r = c.requires.reached in
    let slots = length c.args.redirects.now in
    let first = first_of c.args.names.now slots c.args.left.turns.now r.buckets c.requires.some r.left r.sound in
    let says = first_says c.args.names.now slots c.args.left.turns.now r.buckets no_turn first in
    let named = front_named c.args.names.now c.args.left.names.now c.args.left.turns.now _ c.requires.named
    c.split_at-2.ensures.front ∙ ap (names_at c.args.names.now) says.front ∙ names_of_turns c.args.names.now slots first.bucket in
    let none = ap (redirect_for slots r.taken) (sym named) ∙ sym (c.redirect_for.ensures.redirect r.taken r.marks r.below)
    ∙ c.in_err-redirect.was in
    let no_table = reached_none c.args.names.now slots c.args.taken.now c.args.redirects.now c.args.left.free c.args.left.turns.now r
    first none in
    rw c.from_residual.ensures no_table

pub returns-clause-reached : goal.returns-clause-reached
returns-clause-reached c =
    let r = c.requires.reached in
    let slots = length c.args.redirects.now in
    let names = c.args.names.now in
    let first = first_of names slots c.args.left.turns.now r.buckets c.requires.some r.left r.sound in
    let says = first_says names slots c.args.left.turns.now r.buckets no_turn first in
    let given = c.in_ok-redirect.redirect in
    let named = front_named names c.args.left.names.now c.args.left.turns.now _ c.requires.named c.split_at-2.ensures.front
    ∙ ap (names_at names) says.front ∙ names_of_turns names slots first.bucket in
    let some = ap (redirect_for slots r.taken) (sym named) ∙ sym (c.redirect_for.ensures.redirect r.taken r.marks r.below)
    ∙ c.in_ok-redirect.was in
    let marks = subst (λ l. Marks c.redirect_for.new.taken (slots_led slots given l ++ r.taken)) named
    (c.in_ok-redirect.ensures.marks r.taken r.marks) in
    let next = reached_next names slots c.args.taken.now c.redirect_for.new.taken c.args.redirects.now c.args.left.free
    c.redirect_for.new.free c.args.left.turns.now r first given some (omega arith) marks (c.redirect_for.ensures.free
    r.taken r.marks r.below) in
    rw (says.bucket_is, c.split_at.ensures.back, says.back) next

pub returns-clause-named : goal.returns-clause-named
returns-clause-named c = rw c.split_at.ensures.back (back_named c.args.names.now c.args.left.names.now c.args.left.turns.now _
    c.requires.named c.split_at-2.ensures.back)

pub returns-clause-shorter : goal.returns-clause-shorter
returns-clause-shorter c =
    let r = c.requires.reached in
    let slots = length c.args.redirects.now in
    let names = c.args.names.now in
    let first = first_of names slots c.args.left.turns.now r.buckets c.requires.some r.left r.sound in
    let says = first_says names slots c.args.left.turns.now r.buckets no_turn first in
    let size = says.size in
    let some = first.some in
    let back = c.split_at.ensures.back_len in
    omega (arith, back, size, some)
