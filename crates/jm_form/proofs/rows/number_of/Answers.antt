use Rattle.std.proofs.Common.{◌+◌, ◌*◌, sym, ◌∙◌, ap, arith}
use Rattle.std.proofs.Math.Nat.{pow-le-pow_right}
use Rattle.std.proofs.lemmas.Grind.{pow_more}
use Rattle.byteorder.specs.Endian.{big_number}
use Rattle.jm_form.proofs.ComputedRowsLaws.{number_more}
use Rattle.jm_form.proofs.rows.number_of.Goals as goal

pub overflow_mul-number : goal.overflow_mul-number
overflow_mul-number c =
    let l = c.loop-byte in
    let fits = l.invariant.fits in
    let below = pow-le-pow_right {n = 256} (omega arith) {i = l.byte-index} {j = 7} (omega arith) in
    omega arith

pub overflow_add-number : goal.overflow_add-number
overflow_add-number c =
    let l = c.loop-byte in
    let fits = l.invariant.fits in
    let below = pow-le-pow_right {n = 256} (omega arith) {i = l.byte-index} {j = 7} (omega arith) in
    omega arith

pub loop-byte-preserved : goal.loop-byte-preserved
loop-byte-preserved c =
    let l = c.loop-byte in
    let n = l.byte-index in
    let fits = l.invariant.fits in
    let power = pow_more 256 n in
    let byte = c.from.ensures in
    let small = c.type_inv.bytes n in
    record {
      number = ap (λ x. x * 256 + c.from.result) l.invariant.number ∙ ap (λ x. big_number n c.args.bytes.now * 256 + x) byte
          ∙ sym (number_more n c.args.bytes.now);
      fits = omega (arith, power);
    }
