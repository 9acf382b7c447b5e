use Rattle.std.proofs.Common.{◌≡◌, ◌+◌, ◌*◌, ◌%◌, ◌++◌, length, sum, arith, sym, ap, ◌∙◌, eqb-true}
use Rattle.std.proofs.lemmas.List.{nil_from_length}
use Rattle.jm_inflate.specs.Adler.{weighted}
use Rattle.jm_inflate.proofs.AdlerLaws.{first_part, second_part, adler_word}
use Rattle.jm_inflate.proofs.sums.adler.Goals as goal

pub loop-rest-preserved : goal.loop-rest-preserved
loop-rest-preserved c =
    let part = c.split_at.result.0.now in
    let others = c.split_at.result.1.now in
    let rest = c.loop-rest.rest.now in
    let f = c.loop-rest.sums.first in
    let s = c.loop-rest.sums.second in
    let kept = c.loop-rest.invariant in
    let split : rest ≡ part ++ others = c.split_at.ensures.by_index.0 in
    record {
      low = omega (arith, c.after-sums.ensures.first);
      high = omega (arith, c.after-sums.ensures.second);
      first = ap (λ k. (k + sum others) % 65521) c.after-sums.ensures.first ∙ (first_part f part others ∙ (ap (λ r. (f + sum r) % 65521) (sym split) ∙ kept.first));
      second =
          ap (λ k. (k + length others * c.after-sums.result.first + weighted others) % 65521) c.after-sums.ensures.second
          ∙ (ap (λ k. ((s + length part * f + weighted part) % 65521 + length others * k + weighted others) % 65521) c.after-sums.ensures.first
          ∙ (second_part f s part others ∙ (ap (λ r. (s + length r * f + weighted r) % 65521) (sym split) ∙ kept.second)));
    }

pub returns : goal.returns
returns c =
    let none : length c.loop-rest.rest.now ≡ 0 = eqb-true (length c.loop-rest.rest.now) 0 (sym c.is_empty.ensures ∙ c.loop-rest-test.false) in
    let kept = c.loop-rest.invariant in
    adler_word c.loop-rest.sums.first c.loop-rest.sums.second c.loop-rest.rest.now c.args.bytes.now (nil_from_length c.loop-rest.rest.now none) kept.low kept.high kept.first kept.second
