use Rattle.std.proofs.Common.{ℕ, ◌<◌, ◌+◌, ◌%◌, ◌++◌, ◌∷◌, [], All, length, map, take, drop, set, get_or, cond, true, false, sym, subst, ap, ◌∙◌, arith}
use Rattle.std.proofs.lemmas.List.{take_more_set, length-set}
use Rattle.std.proofs.lemmas.List.Elements.{All-push}
use Rattle.jm_form.specs.Greedy.{are_free, is_among}
use Rattle.jm_form.proofs.FreeLaws.{free_more, not_free}
use Rattle.jm_redirect.specs.Marks.{Marks, slots_sent}
use Rattle.jm_redirect.proofs.MarkLaws.{sent_more, sent_split, marks_pushed, marks_back}
use Rattle.jm_redirect.proofs.marks.mark.Goals as goal

pub unmark-requires : goal.unmark-requires
unmark-requires c =
    subst (λ size. All (λ slot. slot < size) (take c.loop-at.at c.loop-at.marked)) (sym c.loop-at.invariant.size)
    c.loop-at.invariant.below

pub returns-then-taken-slot-clause-fits : goal.returns-then-taken-slot-clause-fits
returns-then-taken-slot-clause-fits c = λ before marks.
    let i = c.loop-at.at in
    let names = c.args.bucket.now.names.now in
    let sent = slots_sent c.args.slots c.args.seed (map (λ name. name.now) (take i names)) in
    let slot = c.hash_at.result % c.args.slots in
    let inside : slot < length c.loop-at.taken = omega (arith, c.requires.some, c.requires.size, c.loop-at.invariant.size) in
    let split = sent_split names c.args.slots c.args.seed i c.requires.some c.loop-at-test.true in
    let there = sym ((c.loop-at.invariant.marks before marks).at slot inside) ∙ c.if-taken-slot.true in
    sym (ap (are_free before) (split ∙ ap (λ g. sent ++ g ∷ slots_sent c.args.slots c.args.seed
    (map (λ name. name.now) (drop (i + 1) names))) (ap (λ (h : ℕ). h % c.args.slots)
    (sym (c.hash_at.ensures c.args.seed c.state_after_prefix-state.ensures)))) ∙ not_free before sent _ slot there)

pub returns-then-taken-slot-clause-marks : goal.returns-then-taken-slot-clause-marks
returns-then-taken-slot-clause-marks c = λ before marks.
    let i = c.loop-at.invariant in
    let at = c.loop-at.at in
    let sent = slots_sent c.args.slots c.args.seed (map (λ name. name.now) (take at c.args.bucket.now.names.now)) in
    marks_back c.loop-at.taken c.unmark.new.taken sent before c.unmark.ensures.size (i.marks before marks)
    (i.free before marks) (λ slot below. c.unmark.ensures.gone slot below
    ∙ ap (λ l. cond (is_among l slot) false (get_or c.loop-at.taken slot false)) i.kept)

pub loop-at-preserved : goal.loop-at-preserved
loop-at-preserved c =
    let i = c.loop-at.invariant in
    let at = c.loop-at.at in
    let names = c.args.bucket.now.names.now in
    let marked = c.loop-at.marked in
    let sent = slots_sent c.args.slots c.args.seed (map (λ name. name.now) (take at names)) in
    let slot = c.hash_at.result % c.args.slots in
    let below : slot < length c.args.taken.now = omega (arith, c.requires.some, c.requires.size) in
    let inside : slot < length c.loop-at.taken = omega (arith, below, i.size) in
    let room : at < length marked = omega (arith, i.room, c.requires.room, c.loop-at-test.true) in
    let one_more = take_more_set marked at slot room in
    let more = sent_more names c.args.slots c.args.seed at c.requires.some c.loop-at-test.true
    ∙ ap (λ g. sent ++ g ∷ []) (ap (λ (h : ℕ). h % c.args.slots) (sym (c.hash_at.ensures c.args.seed
    c.state_after_prefix-state.ensures))) in
    record {
      size = length-set c.loop-at.taken slot true ∙ i.size;
      room = length-set marked at slot ∙ i.room;
      below = subst (All (λ s. s < length c.args.taken.now)) (sym one_more) (All-push (λ s. s < length c.args.taken.now)
          (take at marked) slot i.below below);
      kept = one_more ∙ ap (λ l. l ++ slot ∷ []) i.kept ∙ sym more;
      free = λ before marks.
          let untaken = sym ((i.marks before marks).at slot inside) ∙ c.if-taken-slot.false in
          ap (are_free before) more ∙ free_more before sent slot (i.free before marks) untaken;
      marks = λ before marks.
          subst (λ l. Marks (set c.loop-at.taken slot true) (l ++ before)) (sym more) (marks_pushed c.loop-at.taken sent before slot
          inside (i.marks before marks));
    }
