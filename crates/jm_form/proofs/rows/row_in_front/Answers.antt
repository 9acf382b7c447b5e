use Rattle.std.proofs.Common.{◌-◌, ◌+◌, ◌<◌, ◌≤◌, ◌%◌, ◌/◌, ◌≡◌, ◌⊎◌, inl, inr, length, sym, ◌∙◌, ap, take, length-take-le, arith}
use Rattle.byteorder.specs.Endian.{big_number}
use Rattle.byteorder.specs.Numbers.{big_from-take}
use Rattle.jm_form.specs.ComputedRows.{row_from}
use Rattle.jm_form.proofs.ComputedRowsLaws.{row_goes_on, row_ends, row_breaks}
use Rattle.jm_form.proofs.rows.row_in_front.Goals as goal

pub returns-then-first-lt8 : goal.returns-then-first-lt8
returns-then-first-lt8 c =
    let l = c.loop-first in
    let rest = c.in-Some.ensures.cases.0 in
    sym (row_ends (7 - l.above) l.above l.row c.in-Some.first.now c.in-Some.after.now c.if-first-lt8.true)
    ∙ ap (row_from (7 - l.above) l.above l.row) (sym rest) ∙ l.invariant

pub returns-then-kind-above : goal.returns-then-kind-above
returns-then-kind-above c =
    let l = c.loop-first in
    let b = c.in-Some.first.now in
    let rest = c.in-Some.ensures.cases.0 in
    let len = c.from-len.ensures in
    let bad : (b / 8 ≤ l.above) ⊎ (7 < b / 8) ⊎ (length c.in-Some.after.now < b % 8 + 1) =
    elim c.then-kind-above.either [
      | inl same ↦ inl same
      | inr (inl large) ↦ inr (inl large.1)
      | inr (inr short) ↦ let few = short.2 in inr (inr (omega arith))
    ] in
    sym (row_breaks (7 - l.above) l.above l.row b c.in-Some.after.now c.if-first-lt8.false bad)
    ∙ ap (row_from (7 - l.above) l.above l.row) (sym rest) ∙ l.invariant

pub loop-first-preserved : goal.loop-first-preserved
loop-first-preserved c =
    let l = c.loop-first in
    let b = c.in-Some.first.now in
    let after = c.in-Some.after.now in
    let rest = c.in-Some.ensures.cases.0 in
    let n = c.from-len.result + 1 in
    let len : n ≡ b % 8 + 1 = ap (λ n. n + 1) c.from-len.ensures in
    let rises = c.if-kind-above.false in
    let small = c.if-kind-gt7.false in
    let fits = c.if-after-len.false in
    let size : length (take n after) ≡ n = length-take-le n after fits in
    let value : c.number_of.result ≡ big_number n after = rw (c.split_at.ensures.front, size) at c.number_of.ensures
    ∙ big_from-take 0 n n after (omega arith) in
    let on = row_goes_on l.above l.row b after n len c.if-first-lt8.false rises (omega arith) fits in
    rw (c.set.ensures, value, c.split_at.ensures.back) (sym on ∙ ap (row_from (7 - l.above) l.above l.row) (sym rest) ∙ l.invariant)
