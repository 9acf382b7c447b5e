use Rattle.std.proofs.Common.{◌≡◌, ◌≤◌, ◌+◌, ◌*◌, take, sum}
use Rattle.jm_inflate.specs.Adler.{weighted}
use Rattle.jm_inflate.proofs.sums.after.Given as goal

abbrev pub invariant-loop-byte : goal.invariant-loop-byte
invariant-loop-byte l = record {
  first : l.first ≡ l.fn.sums.first + sum (take l.byte-index l.part);
  second : l.second ≡ l.fn.sums.second + l.byte-index * l.fn.sums.first + weighted (take l.byte-index l.part);
  low : l.first ≤ 65520 + 255 * l.byte-index;
  high : 2 * l.second ≤ 131040 * (l.byte-index + 1) + 255 * (l.byte-index * (l.byte-index + 1));
}
