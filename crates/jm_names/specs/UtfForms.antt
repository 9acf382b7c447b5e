-- A name's two forms: UTF-8 (RFC 3629), where a character above U+FFFF has four bytes, and Modified
-- UTF-8 (JVMS 4.4.7), where it is a pair of surrogates of three bytes each. Whatever is no such
-- character or pair stays as it is (this project's rule).
use Rattle.std.specs.Prelude.{◌≡◌, ℕ, ◌+◌, ◌*◌, ◌-◌, ◌/◌, ◌%◌, Bool, ◌==◌, ◌&&◌, ◌||◌, List, []}
use Rattle.std.specs.Prelude.{◌∷◌, ◌++◌, ◌≤◌, if◌then◌else◌}
use Rattle.jm_names.specs.Characters.{from_to, goes_on, is_surrogate}

-- the four bytes of a character above U+FFFF in UTF-8
abbrev pub four_bytes : ℕ → List ℕ
four_bytes c =
    (0xF0 + c / 0x40000) ∷ (0x80 + c / 0x1000 % 64) ∷ (0x80 + c / 64 % 64) ∷ (0x80 + c % 64) ∷ []

-- the three bytes of a number from 0x800 to 0xFFFF: four, six and six of its bits
abbrev pub three_bytes : ℕ → List ℕ
three_bytes s = (0xE0 + s / 0x1000) ∷ (0x80 + s / 64 % 64) ∷ (0x80 + s % 64) ∷ []

-- the pair of a character above U+FFFF: of its number less 0x10000 the high surrogate has what is
-- above the low ten bits, the low surrogate these, and each is written in three bytes
abbrev pub pair_bytes : ℕ → List ℕ
pair_bytes c =
    three_bytes (0xD800 + (c - 0x10000) / 0x400) ++ three_bytes (0xDC00 + (c - 0x10000) % 0x400)

-- the numbers of the characters above U+FFFF
abbrev pub IsAbove : ℕ → Type 0
IsAbove c = (0x10000 ≤ c) × (c ≤ 0x10FFFF)

-- a character above U+FFFF stands in front of the bytes, where each is written in this way
abbrev pub HasInFront : (ℕ → List ℕ) → List ℕ → Type 0
HasInFront written bytes =
    (c : ℕ) × (rest : List ℕ) × IsAbove c × (bytes ≡ written c ++ rest)

-- the rule of both forms: from left to right each character above U+FFFF that is written in the one
-- way is written in the other, and a byte where none stands stays
pub data Rewritten (one other : ℕ → List ℕ) : (bytes made : List ℕ) → Type 0 where
  Ended : Rewritten one other [] []
  Character : (c : ℕ) (bytes made : List ℕ) → IsAbove c → Rewritten one other bytes made
      → Rewritten one other (one c ++ bytes) (other c ++ made)
  Stays : (b : ℕ) (bytes made : List ℕ) → ¬ HasInFront one (b ∷ bytes)
      → Rewritten one other bytes made → Rewritten one other (b ∷ bytes) (b ∷ made)

-- The same, computed

-- four bytes are one character of UTF-8, from U+10000 to U+10FFFF
abbrev pub is_four : ℕ → ℕ → ℕ → ℕ → Bool
is_four a x y z =
    (a == 0xF0 && from_to 0x90 0xBF x || from_to 0xF1 0xF3 a && goes_on x
    || a == 0xF4 && from_to 0x80 0x8F x)
    && (goes_on y && goes_on z)

-- the number of such a character, from the low three bits of the first byte and the low six of the
-- others
abbrev pub four_number : ℕ → ℕ → ℕ → ℕ → ℕ
four_number a x y z = a % 8 * 0x40000 + x % 64 * 0x1000 + y % 64 * 64 + z % 64

-- six bytes are a high surrogate and a low one
abbrev pub is_pair : ℕ → ℕ → ℕ → ℕ → ℕ → ℕ → Bool
is_pair a x y b z w = is_surrogate 0xA0 0xAF a x y && is_surrogate 0xB0 0xBF b z w

-- the number of the character that a pair stands for: four and six bits of the high surrogate,
-- four and six of the low one
abbrev pub pair_number : ℕ → ℕ → ℕ → ℕ → ℕ
pair_number x y z w =
    0x10000 + (x % 16 * 0x10000 + y % 64 * 0x400 + z % 16 * 64 + w % 64)

-- a text in Modified UTF-8: from left to right each character of four bytes becomes its pair; every
-- other byte stays
abbrev pub modified : List ℕ → List ℕ
modified (a ∷ x ∷ y ∷ z ∷ text) =
    if is_four a x y z then pair_bytes (four_number a x y z) ++ modified text
    else a ∷ modified (x ∷ y ∷ z ∷ text)
modified text = text

-- a name in UTF-8: from left to right each pair becomes its character of four bytes; every other
-- byte stays
abbrev pub utf : List ℕ → List ℕ
utf (a ∷ x ∷ y ∷ b ∷ z ∷ w ∷ name) =
    if is_pair a x y b z w then four_bytes (pair_number x y z w) ++ utf name
    else a ∷ utf (x ∷ y ∷ b ∷ z ∷ w ∷ name)
utf name = name

-- the first byte stays in the other form, and what follows it is read on
abbrev pub FirstStays : (List ℕ → List ℕ) → List ℕ → Type 0
FirstStays form [] = Unit {0}
FirstStays form (a ∷ bytes) = form (a ∷ bytes) ≡ a ∷ form bytes
