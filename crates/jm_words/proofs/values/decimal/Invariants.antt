use Rattle.std.proofs.Common.{◌≡◌, length}
use Rattle.jm_words.specs.Values.{decimal_from}
use Rattle.jm_words.proofs.values.decimal.Given as goal

-- the rest goes on from the number so far
abbrev pub invariant-loop-byte : goal.invariant-loop-byte
invariant-loop-byte l = decimal_from 0 l.fn.text ≡ decimal_from l.number l.rest

abbrev pub decreases-loop-byte : goal.decreases-loop-byte
decreases-loop-byte l = length l.rest
