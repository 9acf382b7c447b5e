-- Laws of the hash.
use Rattle.std.proofs.Common.{◌≡◌, ℕ, ◌+◌, ◌*◌, ◌/◌, ◌%◌, ◌^◌, ◌<◌, List, [], ◌∷◌, ◌++◌, length, refl, ap, ap₂, ◌∙◌, arith}
use Rattle.std.proofs.Math.Nat.{add-mul, pow-suc}
use Rattle.std.proofs.lemmas.List.Elements.{All-head, All-tail}
use Rattle.std.proofs.lemmas.Nat.{xor_block, xor_of_8}
use Rattle.std.specs.Int.Bits.{xor_zero_r}
use Rattle.std.specs.Prelude.{bit_xor, All}
use Rattle.jm_names.specs.Hash.{state_after}

-- the state after two texts is the state after the second from the state after the first
pub state_after-append : (s : ℕ) (a b : List ℕ) → state_after s (a ++ b) ≡ state_after (state_after s a) b
state_after-append s [] b = refl
state_after-append s (x ∷ a) b = state_after-append (bit_xor (s * 0x01000193 % 2 ^ 32) x) a b

-- for the tactics, which take no name with a dash
pub ruleset appended = (state_after-append)

-- a byte meets the low byte of a state alone
step-low : (s b : ℕ) → b < 256 → bit_xor (s * 0x01000193 % 2 ^ 32) b ≡ s * 0x01000193 / 256 % 2 ^ 24 * 256
    + bit_xor (s * 0x01000193 % 256) b
step-low s b byte =
    let high = s * 0x01000193 / 256 % 2 ^ 24 in
    let low = s * 0x01000193 % 256 in
    let parts : s * 0x01000193 % 2 ^ 32 ≡ high * 2 ^ 8 + low = omega arith in
    let alone : b ≡ 0 * 2 ^ 8 + b = omega arith in
    ap₂ (λ x y. bit_xor x y) parts alone ∙ xor_block 8 high 0 low b (omega arith) byte ∙ ap (λ n. n * 256 + bit_xor low b) (xor_zero_r high)

-- the sums of the law below, in which each product counts as one number
uppers : (s x y over0 over1 u q : ℕ) → x + over1 * 2 ^ 24 ≡ u * 0x01000193 + q → y + over0 * 2 ^ 24 ≡ q → (s + x * 256) % 2 ^ 32
    ≡ ((s + y * 256) % 2 ^ 32 + u * 0x01000193 * 256) % 2 ^ 32
uppers s x y over0 over1 u q is1 is0 = omega (arith, is1, is0)

-- one step of the law below, where n is the factor of the bytes behind it
upper-step : (s u l n : ℕ) → (s + (u * 256 + l) * 0x01000193 / 256 % 2 ^ 24 * 256 * n) % 2 ^ 32
    ≡ ((s + l * 0x01000193 / 256 % 2 ^ 24 * 256 * n) % 2 ^ 32 + u * 256 * (n * 0x01000193)) % 2 ^ 32
upper-step s u l n =
    let q = l * 0x01000193 / 256 in
    let all = (u * 256 + l) * 0x01000193 / 256 in
    let sum : all ≡ u * 0x01000193 + q = omega arith in
    let first : all % 2 ^ 24 * n + all / 2 ^ 24 * n * 2 ^ 24 ≡ u * n * 0x01000193 + q * n =
    grind (arith, add-mul (all % 2 ^ 24) (all / 2 ^ 24 * 2 ^ 24) n, add-mul (u * 0x01000193) q n) in
    let second : q % 2 ^ 24 * n + q / 2 ^ 24 * n * 2 ^ 24 ≡ q * n = grind (arith, add-mul (q % 2 ^ 24) (q / 2 ^ 24 * 2 ^ 24) n) in
    omega (arith, uppers s (all % 2 ^ 24 * n) (q % 2 ^ 24 * n) (q / 2 ^ 24 * n) (all / 2 ^ 24 * n) (u * n) (q * n) first second)

-- From two states with the same low byte: their upper parts pass a text as a factor, which is that
-- of all its steps. So what a text does to a low byte alone tells what it does to each such state.
pub state_after-low : (u l : ℕ) (text : List ℕ) → u < 2 ^ 24 → l < 256 → All (λ b. b < 256) text → state_after (u * 256 + l) text
    ≡ (state_after l text + u * 256 * 0x01000193 ^ length text) % 2 ^ 32
state_after-low u l [] upper low bytes = omega arith
state_after-low u l (b ∷ text) upper low bytes =
    let state = u * 256 + l in
    let n = 0x01000193 ^ length text in
    let next = bit_xor (l * 0x01000193 % 256) b in
    let same : state * 0x01000193 % 256 ≡ l * 0x01000193 % 256 = omega arith in
    let byte : b < 256 = All-head (λ (x : ℕ). x < 256) b text bytes in
    let rest : All (λ (x : ℕ). x < 256) text = All-tail (λ (x : ℕ). x < 256) b text bytes in
    let small : next < 256 = xor_of_8 (l * 0x01000193 % 256) b (omega arith) byte in
    let first : bit_xor (state * 0x01000193 % 2 ^ 32) b ≡ state * 0x01000193 / 256 % 2 ^ 24 * 256 + next =
    step-low state b byte ∙ ap (λ k. state * 0x01000193 / 256 % 2 ^ 24 * 256 + bit_xor k b) same in
    let second : bit_xor (l * 0x01000193 % 2 ^ 32) b ≡ l * 0x01000193 / 256 % 2 ^ 24 * 256 + next = step-low l b byte in
    let all = state_after-low (state * 0x01000193 / 256 % 2 ^ 24) next text (omega arith) small rest in
    let alone = state_after-low (l * 0x01000193 / 256 % 2 ^ 24) next text (omega arith) small rest in
    rw (first, second, all, alone, pow-suc 0x01000193 (length text)) (upper-step (state_after next text) u l n)
