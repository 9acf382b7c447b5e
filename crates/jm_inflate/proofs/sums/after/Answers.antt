use Rattle.std.proofs.Common.{◌≡◌, ◌≤◌, ◌+◌, sum, take, arith}
use Rattle.std.proofs.lemmas.List.Sums.{sum_by_more}
use Rattle.jm_inflate.proofs.AdlerLaws.{weighted_more, second_fits, second_grows}
use Rattle.jm_inflate.proofs.sums.after.Goals as goal

pub overflow_add-second : goal.overflow_add-second
overflow_add-second c =
    let byte : c.from-first.result ≤ 255 = let small = c.type_inv.part c.loop-byte.byte-index in omega (arith, c.from-first.ensures, small) in
    let kept = c.loop-byte.invariant in
    let few = c.requires.few in
    let fits = second_fits c.loop-byte.byte-index c.loop-byte.first c.loop-byte.second c.from-first.result (omega (arith, few, c.loop-byte-test.true)) byte kept.low kept.high in
    omega (arith, fits)

pub loop-byte-preserved : goal.loop-byte-preserved
loop-byte-preserved c =
    let i = c.loop-byte.byte-index in
    let part = c.args.part.now in
    let byte : c.from-first.result ≤ 255 = let small = c.type_inv.part i in omega (arith, c.from-first.ensures, small) in
    let kept = c.loop-byte.invariant in
    let total = sum_by_more (λ x. x) part i 0 c.loop-byte-test.true in
    let more = weighted_more part i c.loop-byte-test.true in
    let first : c.loop-byte.first + c.from-first.result ≡ c.args.sums.first + sum (take (i + 1) part) = omega (arith, total, kept.first, c.from-first.ensures) in
    record {
      first = first;
      second = omega (arith, more, first, kept.second);
      low = omega (arith, kept.low, byte);
      high = second_grows i c.loop-byte.first c.loop-byte.second c.from-first.result byte kept.low kept.high;
    }
