use Rattle.std.proofs.Common.{◌≡◌, ◌∙◌, length, sym, arith}
use Rattle.std.proofs.Math.Nat.{le_refl}
use Rattle.jm_form.proofs.TextLaws.{front_found, front_more, front_differs, front_longer}
use Rattle.jm_reader.proofs.compare.front_of.Goals as goal

pub returns-then-byte-eq0-clause-front : goal.returns-then-byte-eq0-clause-front
returns-then-byte-eq0-clause-front g c =
    let loop = c.loop-n.invariant in (
      omega arith,
      front_found c.args.buf.now c.args.name.now c.args.at c.loop-n.n c.requires.ends loop.within loop.same
          (sym c.byte-byte.ensures.byte ∙ c.if-byte-eq0.true),
    )

pub returns-then-byte-name-clause-other : goal.returns-then-byte-name-clause-other
returns-then-byte-name-clause-other g c =
    let loop = c.loop-n.invariant in
    front_differs c.args.buf.now c.args.name.now c.args.at c.loop-n.n c.requires.ends loop.within c.loop-n-test.true
    (λ e. c.if-byte-eq0.false (c.byte-byte.ensures.byte ∙ e)) (λ e. c.if-byte-name.true (c.byte-byte.ensures.byte ∙ e))

pub loop-n-preserved : goal.loop-n-preserved
loop-n-preserved g c =
    let loop = c.loop-n.invariant in
    let more = front_more c.args.buf.now c.args.name.now c.args.at c.loop-n.n c.requires.ends loop.within c.loop-n-test.true
    loop.same (λ e. c.if-byte-eq0.false (c.byte-byte.ensures.byte ∙ e)) (sym c.byte-byte.ensures.byte ∙ c.if-byte-name.false) in
    let cost = c.byte-byte.ensures.cost in
    let bytes = cost.bytes in
    let count = cost.count in
    record { bytes = bytes ∙ loop.bytes; count = omega arith; within = more.0; same = more.1 }

pub returns-then-byte-eq0-2-clause-front : goal.returns-then-byte-eq0-2-clause-front
returns-then-byte-eq0-2-clause-front g c =
    let loop = c.loop-n.invariant in
    let all : c.loop-n.n ≡ length c.args.name.now = omega arith in
    let zero = sym c.byte.ensures.byte ∙ c.if-byte-eq0-2.true in (
      le_refl (length c.args.name.now),
      front_found c.args.buf.now c.args.name.now c.args.at (length c.args.name.now) c.requires.ends
          (rw all at loop.within) (rw all at loop.same) zero,
    )

pub returns-clause-other : goal.returns-clause-other
returns-clause-other g c =
    let loop = c.loop-n.invariant in
    let all : c.loop-n.n ≡ length c.args.name.now = omega arith in
    front_longer c.args.buf.now c.args.name.now c.args.at c.requires.ends (rw all at loop.within) (λ e. c.if-byte-eq0-2.false
    (c.byte.ensures.byte ∙ e))
