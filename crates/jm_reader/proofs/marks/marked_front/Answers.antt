use Rattle.std.proofs.Common.{◌<◌, arith}
use Rattle.jm_form.specs.Texts.{text_at}
use Rattle.jm_reader.proofs.MarkLaws.{no_front, no_mark_behind, front_marked}
use Rattle.jm_reader.proofs.marks.marked_front.Goals as goal

pub returns-in_err-n-clause-other : goal.returns-in_err-n-clause-other
returns-in_err-n-clause-other g c =
    let text = c.args.text.now in
    let rest = c.behind_mark-skipped.ensures.rest in
    let other = c.in_err-n.ensures.other in
    rw c.from_residual.ensures (no_front text.before text.after (text_at c.args.buf.now text.place) c.args.name.now (rw rest at other))

pub returns-in_err-last-clause-other : goal.returns-in_err-last-clause-other
returns-in_err-last-clause-other g c =
    let text = c.args.text.now in
    let rest = c.behind_mark-skipped.ensures.rest in
    let front = rw rest at c.in_ok-n.ensures.front in
    let some : 0 < c.in_ok-n.n = (let not_zero = c.if-n-eq0.false in omega arith) in
    let other = rw rest at c.in_err-last.ensures.none in
    rw c.from_residual-in_err-last.ensures (no_mark_behind text.before text.after (text_at c.args.buf.now text.place)
    c.args.name.now c.in_ok-n.n some front.0 front.1 other)

pub returns-clause-front : goal.returns-clause-front
returns-clause-front g c =
    let text = c.args.text.now in
    let rest = c.behind_mark-skipped.ensures.rest in
    let taken = c.behind_mark-skipped.ensures.taken in
    let front = rw rest at c.in_ok-n.ensures.front in
    let some : 0 < c.in_ok-n.n = (let not_zero = c.if-n-eq0.false in omega arith) in
    let there = rw rest at c.in_ok-last.ensures.there in
    let whole = front_marked text.before text.after (text_at c.args.buf.now text.place) c.args.name.now c.in_ok-n.n
    c.in_ok-last.last some there.0 front.1 there.1 in
    rw taken (whole.1, whole.0)
