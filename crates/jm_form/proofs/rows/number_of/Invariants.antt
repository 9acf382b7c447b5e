use Rattle.std.proofs.Common.{◌≡◌, ◌<◌, ◌^◌}
use Rattle.byteorder.specs.Endian.{big_number}
use Rattle.jm_form.proofs.rows.number_of.Given as goal

abbrev pub invariant-loop-byte : goal.invariant-loop-byte
invariant-loop-byte l = record {
  number : l.number ≡ big_number l.byte-index l.bytes;
  fits : l.number < 256 ^ l.byte-index;
}
