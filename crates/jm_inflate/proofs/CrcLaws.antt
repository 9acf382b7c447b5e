-- A remainder over eight bits at once, by a table.
use Rattle.std.proofs.Common.{◌≡◌, ℕ, zero, suc, ◌*◌, ◌/◌, ◌%◌, ◌^◌, ◌<◌, map, get_or, refl, sym, ap, ◌∙◌, arith}
use Rattle.std.specs.Prelude.{bit_xor, bit_and}
use Rattle.std.specs.List.{range_with_len}
use Rattle.std.specs.Int.Bits.{xor_assoc, xor_zero_l, xor_zero_r, xor_self, xor_shifted}
use Rattle.std.proofs.lemmas.Nat.{xor_comm, xor_mod, xor_shr, and_mask, mod_below, shr_split}
use Rattle.std.proofs.lemmas.List.FromFn.{get_or-map-range_with_len}
use Rattle.jm_inflate.specs.declared.remainders.TheConstants.{TABLE}
use Rattle.jm_inflate.specs.Crc.{divisor, divided, steps, with_byte}

-- a bit times the divisor
times : (x y g : ℕ) → x < 2 → y < 2 → bit_xor x y * g ≡ bit_xor (x * g) (y * g)
times zero y g one two = ap (λ k. k * g) (xor_zero_l y) ∙ sym (ap (λ k. bit_xor k (y * g)) (let z : 0 * g ≡ 0 = omega arith in z) ∙ xor_zero_l (y * g))
times (suc zero) zero g one two = ap (λ k. k * g) (xor_zero_r 1) ∙ sym (ap (bit_xor (1 * g)) (let z : 0 * g ≡ 0 = omega arith in z) ∙ xor_zero_r (1 * g))
times (suc zero) (suc zero) g one two = ap (λ k. k * g) (xor_self 1) ∙ ((let z : 0 * g ≡ 0 = omega arith in z) ∙ sym (xor_self (1 * g)))
times (suc zero) (suc (suc y)) g one two = absurd (omega (arith, two))
times (suc (suc x)) y g one two = absurd (omega (arith, one))

middle : (a b c d : ℕ) → bit_xor (bit_xor a b) (bit_xor c d) ≡ bit_xor (bit_xor a c) (bit_xor b d)
middle a b c d =
    xor_assoc a b (bit_xor c d)
    ∙ (ap (bit_xor a) (sym (xor_assoc b c d) ∙ (ap (λ k. bit_xor k d) (xor_comm b c) ∙ xor_assoc c b d))
    ∙ sym (xor_assoc a c (bit_xor b d)))

divided-xor : (a b : ℕ) → divided (bit_xor a b) ≡ bit_xor (divided a) (divided b)
divided-xor a b =
    let half : bit_xor a b / 2 ≡ bit_xor (a / 2) (b / 2) = xor_shr a b 1 in
    let low : bit_xor a b % 2 ≡ bit_xor (a % 2) (b % 2) = xor_mod a b 1 in
    let product : bit_xor a b % 2 * divisor ≡ bit_xor (a % 2 * divisor) (b % 2 * divisor) =
    ap (λ k. k * divisor) low ∙ times (a % 2) (b % 2) divisor (omega arith) (omega arith) in
    ap (λ k. bit_xor k (bit_xor a b % 2 * divisor)) half ∙ (ap (bit_xor (bit_xor (a / 2) (b / 2))) product ∙ middle (a / 2) (b / 2) (a % 2 * divisor) (b % 2 * divisor))

-- the steps of a sum are the sum of the steps
pub steps-xor : (n a b : ℕ) → steps n (bit_xor a b) ≡ bit_xor (steps n a) (steps n b)
steps-xor zero a b = refl
steps-xor (suc n) a b = ap (steps n) (divided-xor a b) ∙ steps-xor n (divided a) (divided b)

divided_even : (k : ℕ) → divided (k * 2) ≡ k
divided_even k =
    let half : k * 2 / 2 ≡ k = omega arith in
    let none : k * 2 % 2 * divisor ≡ 0 = ap (λ r. r * divisor) (let z : k * 2 % 2 ≡ 0 = omega arith in z) in
    ap (λ r. bit_xor r (k * 2 % 2 * divisor)) half ∙ (ap (bit_xor k) none ∙ xor_zero_r k)

power : (n : ℕ) → 2 ^ suc n ≡ 2 * 2 ^ n
power n = omega arith

turned : (k p : ℕ) → k * (2 * p) ≡ k * p * 2
turned k p = omega arith

-- coefficients that are too low to come out only move
steps_moved : (n k : ℕ) → steps n (k * 2 ^ n) ≡ k
steps_moved zero k = omega arith
steps_moved (suc n) k =
    let front : k * 2 ^ suc n ≡ k * 2 ^ n * 2 = ap (λ p. k * p) (power n) ∙ turned k (2 ^ n) in
    ap (λ r. steps n (divided r)) front ∙ (ap (steps n) (divided_even (k * 2 ^ n)) ∙ steps_moved n k)

parts : (r : ℕ) → r ≡ bit_xor (r / 2 ^ 8 * 2 ^ 8) (r % 2 ^ 8)
parts r = sym (shr_split r 8) ∙ sym (xor_shifted (r / 2 ^ 8) 8 (r % 2 ^ 8) (mod_below r (2 ^ 8) (omega arith)))

steps_parted : (r : ℕ) → steps 8 r ≡ bit_xor (steps 8 (r % 2 ^ 8)) (r / 2 ^ 8)
steps_parted r =
    ap (steps 8) (parts r)
    ∙ (steps-xor 8 (r / 2 ^ 8 * 2 ^ 8) (r % 2 ^ 8)
    ∙ (ap (λ k. bit_xor k (steps 8 (r % 2 ^ 8))) (steps_moved 8 (r / 2 ^ 8)) ∙ xor_comm (r / 2 ^ 8) (steps 8 (r % 2 ^ 8))))

table_all : map (steps 8) (range_with_len 0 256) ≡ TABLE
table_all = refl

pub table_at : (n : ℕ) → n < 256 → get_or TABLE n 0 ≡ steps 8 n
table_at n below = ap (λ t. get_or t n 0) (sym table_all) ∙ get_or-map-range_with_len (steps 8) 0 256 n n 0 below (omega arith)

-- a byte more, by the table
pub byte_step : (r byte : ℕ) → byte < 256 → bit_xor (get_or TABLE (bit_and (bit_xor r byte) 255) 0) (r / 256) ≡ with_byte r byte
byte_step r byte small =
    let low : bit_and (bit_xor r byte) 255 ≡ bit_xor r byte % 2 ^ 8 = and_mask (bit_xor r byte) 8 in
    let below : bit_xor r byte % 2 ^ 8 < 256 = mod_below (bit_xor r byte) (2 ^ 8) (omega arith) in
    let high : bit_xor r byte / 2 ^ 8 ≡ r / 256 = xor_shr r byte 8 ∙ (ap (bit_xor (r / 2 ^ 8)) (let z : byte / 2 ^ 8 ≡ 0 = omega (arith, small) in z) ∙ xor_zero_r (r / 2 ^ 8)) in
    ap (λ k. bit_xor (get_or TABLE k 0) (r / 256)) low
    ∙ (ap (λ k. bit_xor k (r / 256)) (table_at (bit_xor r byte % 2 ^ 8) below)
    ∙ (ap (bit_xor (steps 8 (bit_xor r byte % 2 ^ 8))) (sym high) ∙ sym (steps_parted (bit_xor r byte))))
