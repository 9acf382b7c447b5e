use Rattle.std.proofs.Common.{◌∙◌, sym, ap, arith, length, length-append}
use Rattle.jm_reader.proofs.OrderLaws.{cut_first, decided, one_ended}
use Rattle.jm_reader.proofs.order.+order_from.Goals as goal

pub returns-then-len-eq0 : goal.returns-then-len-eq0
returns-then-len-eq0 t c =
    let one = c.part_or_next-part.ensures in
    let other = c.part_or_next-other_part.ensures in
    rw (one.same, other.same)
    (c.cmp.ensures ∙ one_ended _ _ _ _ (sym c.min-len.ensures ∙ c.if-len-eq0.true) one.end other.end)

pub order_from-requires : goal.order_from-requires
order_from-requires t c =
    let same = ap length c.part_or_next-part.ensures.same in
    let old = length-append c.args.part.now c.args.bytes.now in
    let new = length-append c.part_or_next-part.result.now c.part_or_next-part.new.bytes in
    let cut = c.split_at.ensures.back_len in
    let some = c.if-len-eq0.false in
    let less = c.min-len.ensures in
    let falls = c.decreases in
    (omega (arith, same, old, new, cut, some, less, falls), tt)

pub returns-in-Equal : goal.returns-in-Equal
returns-in-Equal t c =
    let one = c.part_or_next-part.ensures in
    let other = c.part_or_next-other_part.ensures in
    let cut = cut_first c.min-len.result c.part_or_next-part.result.now c.part_or_next-part.new.bytes
    c.part_or_next-other_part.result.now c.part_or_next-other_part.new.bytes c.min-len.ensures in
    rw (
      one.same,
      other.same,
      cut,
      sym c.split_at.ensures.front,
      sym c.split_at-2.ensures.front,
      sym c.cmp-2.ensures,
      c.in-Equal.is,
      sym c.split_at.ensures.back,
      sym c.split_at-2.ensures.back,
    ) c.order_from.ensures

pub returns-in_default : goal.returns-in_default
returns-in_default t c =
    let one = c.part_or_next-part.ensures in
    let other = c.part_or_next-other_part.ensures in
    let cut = cut_first c.min-len.result c.part_or_next-part.result.now c.part_or_next-part.new.bytes
    c.part_or_next-other_part.result.now c.part_or_next-other_part.new.bytes c.min-len.ensures in
    rw (one.same, other.same, cut, sym c.split_at.ensures.front, sym c.split_at-2.ensures.front, sym c.cmp-2.ensures)
    (decided _ _ c.in_default.not-Equal)
