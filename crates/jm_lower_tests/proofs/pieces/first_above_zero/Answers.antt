use Rattle.std.proofs.Common.{◌≡◌, ◌<◌, MatchOption, slice_index, rules, of_calls}
use Rattle.jm_halves.proofs.Least.{first_weaker}
use Rattle.jm_lower_tests.proofs.pieces.first_above_zero.Goals as goal

pub returns : goal.returns
returns g c =
    let numbers = c.args.numbers.now in
    let first = first_weaker (λ i r. MatchOption r (slice_index numbers i ≡ 0) (λ n. (n ≡ slice_index numbers i) × (0 < n))) _
    c.first_some.ensures (λ i r from to says. search (rules, of_calls)) in
    search rules
