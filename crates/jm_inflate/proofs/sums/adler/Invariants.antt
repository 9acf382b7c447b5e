use Rattle.std.proofs.Common.{◌≡◌, ◌<◌, ◌+◌, ◌*◌, ◌%◌, length, sum}
use Rattle.jm_inflate.specs.Adler.{weighted}
use Rattle.jm_inflate.proofs.sums.adler.Given as goal

-- the sums so far and the bytes that are left give the sums of all
abbrev pub invariant-loop-rest : goal.invariant-loop-rest
invariant-loop-rest l = record {
  low : l.sums.first < 65521;
  high : l.sums.second < 65521;
  first : (l.sums.first + sum l.rest) % 65521 ≡ (1 + sum l.bytes) % 65521;
  second : (l.sums.second + length l.rest * l.sums.first + weighted l.rest) % 65521 ≡ (length l.bytes + weighted l.bytes) % 65521;
}

abbrev pub decreases-loop-rest : goal.decreases-loop-rest
decreases-loop-rest l = length l.rest
