-- The CRC-32 of bytes (ISO 3309), as zip has it: the remainder of a division of polynomials over two elements. The bits of each byte come in
-- from the lowest on, as coefficients of falling powers.
use Rattle.std.specs.Prelude.{ℕ, zero, suc, ◌*◌, ◌/◌, ◌%◌, ◌-◌, ◌^◌, List, bit_xor}
use Rattle.std.specs.List.{fold}

-- The divisor x^32 + x^26 + x^23 + x^22 + x^16 + x^12 + x^11 + x^10 + x^8 + x^7 + x^5 + x^4 + x^2 + x + 1 without its highest term, where the
-- lowest bit of a word is the coefficient of x^31 (0xEDB88320).
abbrev pub divisor : ℕ
divisor = 3988292384

-- One step of the division: the highest coefficient goes out, and the divisor is taken off where it was 1.
abbrev pub divided : ℕ → ℕ
divided remainder = bit_xor (remainder / 2) (remainder % 2 * divisor)

-- So many steps.
abbrev pub steps : ℕ → ℕ → ℕ
steps zero remainder = remainder
steps (suc n) remainder = steps n (divided remainder)

-- The eight bits of a byte come in.
abbrev pub with_byte : ℕ → ℕ → ℕ
with_byte remainder byte = steps 8 (bit_xor remainder byte)

-- It begins with 32 ones, and the remainder is complemented.
abbrev pub crc32 : List ℕ → ℕ
crc32 bytes = bit_xor (fold with_byte (2 ^ 32 - 1) bytes) (2 ^ 32 - 1)
