use Rattle.std.proofs.Common.{◌≡◌, ◌-◌, ◌^◌, take}
use Rattle.std.specs.List.{fold}
use Rattle.jm_inflate.specs.Crc.{with_byte}
use Rattle.jm_inflate.proofs.remainders.crc32.Given as goal

abbrev pub invariant-loop-byte : goal.invariant-loop-byte
invariant-loop-byte l = l.remainder ≡ fold with_byte (2 ^ 32 - 1) (take l.byte-index l.bytes)
