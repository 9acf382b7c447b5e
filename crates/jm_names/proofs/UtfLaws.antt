-- The two forms of UTF-8 lead to one another.
use Rattle.std.proofs.Common.{◌≡◌, ℕ, ◌+◌, ◌-◌, ◌/◌, ◌%◌, ◌<◌, ◌≤◌, Bool, true, false, ◌==◌, ◌&&◌, nat_lt}
use Rattle.std.proofs.Common.{nat_le, List, [], ◌∷◌, ◌++◌, ◌⊎◌, refl, sym, ap, ◌∙◌, inl, inr, arith}
use lib.Utf8.{scalar, scalars, scalar_cases}
use Rattle.std.specs.Str.{IsUtf8, encode_utf8_all}
use Rattle.std.specs.Char.{encode_utf8}
use Rattle.std.specs.List.{list_all, concat}
use Rattle.std.proofs.lemmas.Bool.{false≢true, cases_Bool, eqb-true, leb-true, and_parts, ltb-true, ltb-false}
use Rattle.std.proofs.lemmas.Bool.Decides.{nat_tests}
use Rattle.jm_names.specs.Characters.{from_to, goes_on, is_surrogate, is_character, IsText}
use Rattle.jm_names.specs.UtfForms.{is_four, four_number, four_bytes, is_pair, pair_number, pair_bytes, IsAbove, modified, utf}

-- a byte that begins no character of four bytes stays
pub modified-byte : (a : ℕ) (text : List ℕ) → a < 0xF0 → modified (a ∷ text) ≡ a ∷ modified text
modified-byte a [] h = refl
modified-byte a (x ∷ []) h = refl
modified-byte a (x ∷ y ∷ []) h = refl
modified-byte a (x ∷ y ∷ z ∷ text) h =
    let none : is_four a x y z ≡ false = grind (arith, nat_tests) in rw none

-- a byte that begins no surrogate stays
pub utf-byte : (a : ℕ) (name : List ℕ) → (a == 0xED) ≡ false → utf (a ∷ name) ≡ a ∷ utf name
utf-byte a [] h = refl
utf-byte a (x ∷ []) h = refl
utf-byte a (x ∷ y ∷ []) h = refl
utf-byte a (x ∷ y ∷ b ∷ []) h = refl
utf-byte a (x ∷ y ∷ b ∷ z ∷ []) h = refl
utf-byte a (x ∷ y ∷ b ∷ z ∷ w ∷ name) h = rw h

-- nor does one before a byte below A0
pub utf-low : (a x : ℕ) (name : List ℕ) → x < 0xA0 → utf (a ∷ x ∷ name) ≡ a ∷ utf (x ∷ name)
utf-low a x [] h = refl
utf-low a x (y ∷ []) h = refl
utf-low a x (y ∷ b ∷ []) h = refl
utf-low a x (y ∷ b ∷ z ∷ []) h = refl
utf-low a x (y ∷ b ∷ z ∷ w ∷ name) h =
    let none : is_pair a x y b z w ≡ false = grind (arith, nat_tests) in rw none

-- the number of a character of four bytes is read back
four_number-bytes : (c : ℕ) → c < 0x110000 → four_number (0xF0 + c / 0x40000) (0x80 + c / 0x1000 % 64) (0x80 + c / 64 % 64)
    (0x80 + c % 64) ≡ c
four_number-bytes c h = omega arith

pub is_four-bytes : (c : ℕ) → 0x10000 ≤ c → c < 0x110000 → is_four (0xF0 + c / 0x40000) (0x80 + c / 0x1000 % 64) (0x80 + c / 64 % 64)
    (0x80 + c % 64) ≡ true
is_four-bytes c l h = grind (arith, nat_tests)

pair_number-bytes : (u : ℕ) → u < 0x100000 → pair_number (0xA0 + u / 0x10000) (0x80 + u / 0x400 % 64) (0xB0 + u / 64 % 16)
    (0x80 + u % 64) ≡ 0x10000 + u
pair_number-bytes u h = omega arith

is_pair-bytes : (u : ℕ) → u < 0x100000 → is_pair 0xED (0xA0 + u / 0x10000) (0x80 + u / 0x400 % 64) 0xED (0xB0 + u / 64 % 16)
    (0x80 + u % 64) ≡ true
is_pair-bytes u h = grind (arith, nat_tests)

-- the three bytes of a surrogate, in numbers
record InSurrogate (low high a x y : ℕ) : Type 0 where
  first : a ≡ 0xED
  above : low ≤ x
  below : x ≤ high
  goes_on_above : 0x80 ≤ y
  goes_on_below : y ≤ 0xBF

surrogate_parts : (low high a x y : ℕ) → is_surrogate low high a x y ≡ true → InSurrogate low high a x y
surrogate_parts low high a x y h =
    let whole = and_parts (a == 0xED && from_to low high x) (goes_on y) h in
    let front = and_parts (a == 0xED) (from_to low high x) whole.0 in
    let second = and_parts (nat_le low x) (nat_le x high) front.1 in
    let third = and_parts (nat_le 0x80 y) (nat_le y 0xBF) whole.1 in
    record {
      first = eqb-true a 0xED front.0;
      above = leb-true low x second.0;
      below = leb-true x high second.1;
      goes_on_above = leb-true 0x80 y third.0;
      goes_on_below = leb-true y 0xBF third.1;
    }

-- the six bytes of a pair, from the bits of the number less 0x10000
abbrev surrogates : ℕ → List ℕ
surrogates u = 0xED ∷ (0xA0 + u / 0x10000) ∷ (0x80 + u / 0x400 % 64) ∷ 0xED ∷ (0xB0 + u / 64 % 16) ∷ (0x80 + u % 64) ∷ []

pair_bytes-bits : (c : ℕ) → 0x10000 ≤ c → c < 0x110000 → pair_bytes c ≡ surrogates (c - 0x10000)
pair_bytes-bits c l h =
    let first : 0xE0 + (0xD800 + (c - 0x10000) / 0x400) / 0x1000 ≡ 0xED = omega arith in
    let second : 0x80 + (0xD800 + (c - 0x10000) / 0x400) / 64 % 64 ≡ 0xA0 + (c - 0x10000) / 0x10000 = omega arith in
    let third : 0x80 + (0xD800 + (c - 0x10000) / 0x400) % 64 ≡ 0x80 + (c - 0x10000) / 0x400 % 64 = omega arith in
    let fourth : 0xE0 + (0xDC00 + (c - 0x10000) % 0x400) / 0x1000 ≡ 0xED = omega arith in
    let fifth : 0x80 + (0xDC00 + (c - 0x10000) % 0x400) / 64 % 64 ≡ 0xB0 + (c - 0x10000) / 64 % 16 = omega arith in
    let sixth : 0x80 + (0xDC00 + (c - 0x10000) % 0x400) % 64 ≡ 0x80 + (c - 0x10000) % 64 = omega arith in
    rw (first, second, third, fourth, fifth, sixth) refl

-- the first byte of a pair isn't below 128
pub pair_bytes-high : (c : ℕ) (rest : List ℕ) → list_all (λ b. nat_lt b 128) (pair_bytes c ++ rest) ≡ false
pair_bytes-high c rest =
    let first : nat_lt (0xE0 + (0xD800 + (c - 0x10000) / 0x400) / 0x1000) 128 ≡ false = grind (arith, nat_tests) in
    rw first refl

-- the bytes of a pair are those of its number
pub pair_number-read : (a x y b z w : ℕ) → is_pair a x y b z w ≡ true → pair_bytes (pair_number x y z w) ≡ a ∷ x ∷ y ∷ b ∷ z ∷ w ∷ []
pair_number-read a x y b z w h =
    let tests = and_parts (is_surrogate 0xA0 0xAF a x y) (is_surrogate 0xB0 0xBF b z w) h in
    let high = surrogate_parts 0xA0 0xAF a x y tests.0 in
    let low = surrogate_parts 0xB0 0xBF b z w tests.1 in
    let second : 0xA0 + (pair_number x y z w - 0x10000) / 0x10000 ≡ x = omega (arith, high.above, high.below) in
    let third : 0x80 + (pair_number x y z w - 0x10000) / 0x400 % 64 ≡ y = omega (arith, high.goes_on_above, high.goes_on_below) in
    let fifth : 0xB0 + (pair_number x y z w - 0x10000) / 64 % 16 ≡ z = omega (arith, low.above, low.below) in
    let sixth : 0x80 + (pair_number x y z w - 0x10000) % 64 ≡ w = omega (arith, low.goes_on_above, low.goes_on_below) in
    pair_bytes-bits (pair_number x y z w) (omega arith) (omega arith) ∙ rw (second, third, fifth, sixth, high.first, low.first)

-- a character below U+10000 stays in both forms
record Stays (bytes rest : List ℕ) : Type 0 where
  to_modified : modified (bytes ++ rest) ≡ bytes ++ modified rest
  to_utf : utf (bytes ++ rest) ≡ bytes ++ utf rest

stays_one : (a : ℕ) (rest : List ℕ) → a < 0x80 → Stays (a ∷ []) rest
stays_one a rest h = record {
  to_modified = modified-byte a rest (omega arith);
  to_utf = utf-byte a rest (grind (arith, nat_tests));
}

stays_two : (a x : ℕ) (rest : List ℕ) → a < 0xE0 → x < 0xC0 → Stays (a ∷ x ∷ []) rest
stays_two a x rest h k = record {
  to_modified = modified-byte a (x ∷ rest) (omega arith) ∙ ap (λ t. a ∷ t) (modified-byte x rest (omega arith));
  to_utf = utf-byte a (x ∷ rest) (grind (arith, nat_tests)) ∙ ap (λ t. a ∷ t) (utf-byte x rest (grind (arith, nat_tests)));
}

stays_three : (a x y : ℕ) (rest : List ℕ) → a < 0xF0 → x < 0xC0 → y < 0xC0 → (a ≡ 0xED → x < 0xA0) → Stays (a ∷ x ∷ y ∷ []) rest
stays_three a x y rest h k l e = record {
  to_modified = modified-byte a (x ∷ y ∷ rest) h ∙ ap (λ t. a ∷ t) (modified-byte x (y ∷ rest) (omega arith)
      ∙ ap (λ t. x ∷ t) (modified-byte y rest (omega arith)));
  to_utf = front ∙ ap (λ t. a ∷ t) (utf-byte x (y ∷ rest) (grind (arith, nat_tests))
      ∙ ap (λ t. x ∷ t) (utf-byte y rest (grind (arith, nat_tests))));
}
  where
    front : utf (a ∷ x ∷ y ∷ rest) ≡ a ∷ utf (x ∷ y ∷ rest)
    front = elim (cases_Bool (a == 0xED)) [
      | inl is ↦ utf-low a x (y ∷ rest) (e (eqb-true a 0xED is))
      | inr other ↦ utf-byte a (x ∷ y ∷ rest) other
    ]

-- a character above U+FFFF becomes its pair, and the pair the character
pub modified-four : (c : ℕ) (rest : List ℕ) → 0x10000 ≤ c → c < 0x110000 → modified (four_bytes c ++ rest) ≡ pair_bytes c ++ modified rest
modified-four c rest l h =
    let test = is_four-bytes c l h in
    let same = four_number-bytes c h in
    rw (test, same)

pub utf-pair : (c : ℕ) (rest : List ℕ) → 0x10000 ≤ c → c < 0x110000 → utf (pair_bytes c ++ rest) ≡ four_bytes c ++ utf rest
utf-pair c rest l h =
    let below : c - 0x10000 < 0x100000 = omega arith in
    let test = is_pair-bytes (c - 0x10000) below in
    let same : pair_number (0xA0 + (c - 0x10000) / 0x10000) (0x80 + (c - 0x10000) / 0x400 % 64) (0xB0 + (c - 0x10000) / 64 % 16)
    (0x80 + (c - 0x10000) % 64) ≡ c = pair_number-bytes (c - 0x10000) below ∙ omega arith in
    let six : utf (surrogates (c - 0x10000) ++ rest) ≡ four_bytes c ++ utf rest = rw (test, same) in
    ap (λ t. utf (t ++ rest)) (pair_bytes-bits c l h) ∙ six

-- the bytes of a character of four are those of its number
pub four_number-read : (a x y z : ℕ) → is_four a x y z ≡ true → four_bytes (four_number a x y z) ≡ a ∷ x ∷ y ∷ z ∷ []
four_number-read a x y z h =
    let first : 0xF0 + four_number a x y z / 0x40000 ≡ a = grind (arith, nat_tests) in
    let second : 0x80 + four_number a x y z / 0x1000 % 64 ≡ x = grind (arith, nat_tests) in
    let third : 0x80 + four_number a x y z / 64 % 64 ≡ y = grind (arith, nat_tests) in
    let fourth : 0x80 + four_number a x y z % 64 ≡ z = grind (arith, nat_tests) in
    rw (first, second, third, fourth) refl

pub four_number-above : (a x y z : ℕ) → is_four a x y z ≡ true → IsAbove (four_number a x y z)
four_number-above a x y z h = (grind (arith, nat_tests), grind (arith, nat_tests))

pub is_pair-in_front : (c a x y b z w : ℕ) (name rest : List ℕ) → IsAbove c
    → a ∷ x ∷ y ∷ b ∷ z ∷ w ∷ name ≡ pair_bytes c ++ rest → is_pair a x y b z w ≡ true
is_pair-in_front c a x y b z w name rest range e =
    let below : c < 0x110000 = omega (arith, range.1) in
    let bits : a ∷ x ∷ y ∷ b ∷ z ∷ w ∷ name ≡ surrogates (c - 0x10000) ++ rest =
    e ∙ ap (λ t. t ++ rest) (pair_bytes-bits c range.0 below) in
    let six = is_pair-bytes (c - 0x10000) (omega (arith, below, range.0)) in
    let one : a ≡ 0xED = cc in
    let two : x ≡ 0xA0 + (c - 0x10000) / 0x10000 = cc in
    let three : y ≡ 0x80 + (c - 0x10000) / 0x400 % 64 = cc in
    let four : b ≡ 0xED = cc in
    let five : z ≡ 0xB0 + (c - 0x10000) / 64 % 16 = cc in
    let last : w ≡ 0x80 + (c - 0x10000) % 64 = cc in
    rw (one, two, three, four, five, last) six

-- a character of UTF-8, by the number of its bytes
utf-char : (c : ℕ) (rest : List ℕ) → scalar c ≡ true → utf (modified (encode_utf8 c ++ rest)) ≡ encode_utf8 c ++ utf (modified rest)
unfolding encode_utf8
utf-char c rest s = go (nat_lt c 0x80) (nat_lt c 0x800) (nat_lt c 0x10000) refl refl refl
  where
    back : (bytes : List ℕ) → Stays bytes rest → Stays bytes (modified rest) → utf (modified (bytes ++ rest)) ≡ bytes ++ utf (modified rest)
    back bytes a b = ap utf a.to_modified ∙ b.to_utf

    bounds : (c < 0xD800) ⊎ ((0xE000 ≤ c) × (c < 0x110000))
    bounds = scalar_cases c s

    high : c < 0x110000
    high = elim bounds [ inl low ↦ omega arith | inr above ↦ above.1 ]

    second : 224 + c / 4096 ≡ 0xED → 128 + c / 64 % 64 < 0xA0
    second e = elim bounds [ inl low ↦ omega arith | inr above ↦ absurd (omega (arith, above.0)) ]

    go : (one two three : Bool) → nat_lt c 0x80 ≡ one → nat_lt c 0x800 ≡ two → nat_lt c 0x10000 ≡ three
        → utf (modified (encode_utf8 c ++ rest)) ≡ encode_utf8 c ++ utf (modified rest)
    go true two three a b d =
        let e : encode_utf8 c ≡ c ∷ [] = rw a in
        rw e (back (c ∷ []) (stays_one c rest (ltb-true c 0x80 a)) (stays_one c (modified rest) (ltb-true c 0x80 a)))
    go false true three a b d =
        let e : encode_utf8 c ≡ (192 + c / 64) ∷ (128 + c % 64) ∷ [] = rw (a, b) in
        let l = ltb-true c 0x800 b in
        rw e (back ((192 + c / 64) ∷ (128 + c % 64) ∷ []) (stays_two (192 + c / 64) (128 + c % 64) rest (omega arith) (omega arith))
        (stays_two (192 + c / 64) (128 + c % 64) (modified rest) (omega arith) (omega arith)))
    go false false true a b d =
        let e : encode_utf8 c ≡ (224 + c / 4096) ∷ (128 + c / 64 % 64) ∷ (128 + c % 64) ∷ [] = rw (a, b, d) in
        let l = ltb-true c 0x10000 d in
        rw e (back ((224 + c / 4096) ∷ (128 + c / 64 % 64) ∷ (128 + c % 64) ∷ []) (stays_three (224 + c / 4096) (128 + c / 64 % 64)
        (128 + c % 64) rest (omega arith) (omega arith) (omega arith) second) (stays_three (224 + c / 4096) (128 + c / 64 % 64)
        (128 + c % 64) (modified rest) (omega arith) (omega arith) (omega arith) second))
    go false false false a b d =
        let e : encode_utf8 c ≡ four_bytes c = rw (a, b, d) in
        let l = ltb-false c 0x10000 d in
        rw e (ap utf (modified-four c rest l high) ∙ utf-pair c (modified rest) l high)

-- what is UTF-8 comes back from Modified UTF-8
pub utf-modified : (text : List ℕ) → IsUtf8 text → utf (modified text) ≡ text
utf-modified text is = ap (λ t. utf (modified t)) (sym is.1.1) ∙ all is.0 is.1.0 ∙ is.1.1
  where
    all : (cs : List ℕ) → scalars cs ≡ true → utf (modified (encode_utf8_all cs)) ≡ encode_utf8_all cs
    all [] h = refl
    all (c ∷ cs) h =
        let tests = and_parts (scalar c) (scalars cs) h in
        utf-char c (encode_utf8_all cs) tests.0 ∙ ap (λ t. encode_utf8 c ++ t) (all cs tests.1)

-- a character of a name comes back from UTF-8
modified-character : (c rest : List ℕ) → is_character c ≡ true → modified (utf (c ++ rest)) ≡ c ++ modified (utf rest)
modified-character [] rest h = absurd (false≢true h)
modified-character (a ∷ []) rest h =
    let l : a < 0x80 = grind (arith, nat_tests) in
    ap modified (stays_one a rest l).to_utf ∙ (stays_one a (utf rest) l).to_modified
modified-character (a ∷ x ∷ []) rest h =
    let l : (a < 0xE0) × (x < 0xC0) = grind (arith, nat_tests) in
    ap modified (stays_two a x rest l.0 l.1).to_utf ∙ (stays_two a x (utf rest) l.0 l.1).to_modified
modified-character (a ∷ x ∷ y ∷ []) rest h =
    let l : (a < 0xF0) × (x < 0xC0) × (y < 0xC0) = grind (arith, nat_tests) in
    let low : a ≡ 0xED → x < 0xA0 = λ e. grind (arith, nat_tests) in
    ap modified (stays_three a x y rest l.0 l.1 l.2 low).to_utf ∙ (stays_three a x y (utf rest) l.0 l.1 l.2 low).to_modified
modified-character (a ∷ x ∷ y ∷ b ∷ []) rest h = absurd (false≢true h)
modified-character (a ∷ x ∷ y ∷ b ∷ z ∷ []) rest h = absurd (false≢true h)
modified-character (a ∷ x ∷ y ∷ b ∷ z ∷ w ∷ []) rest h =
    let first : utf (a ∷ x ∷ y ∷ b ∷ z ∷ w ∷ rest) ≡ four_bytes (pair_number x y z w) ++ utf rest = rw h in
    let number : (0x10000 ≤ pair_number x y z w) × (pair_number x y z w < 0x110000) = (omega arith, omega arith) in
    let same : pair_bytes (pair_number x y z w) ≡ a ∷ x ∷ y ∷ b ∷ z ∷ w ∷ [] = pair_number-read a x y b z w h in
    ap modified first ∙ modified-four (pair_number x y z w) (utf rest) number.0 number.1 ∙ ap (λ t. t ++ modified (utf rest)) same
modified-character (a ∷ x ∷ y ∷ b ∷ z ∷ w ∷ u ∷ c) rest h = absurd (false≢true h)

-- what is a run of characters comes back from UTF-8
pub modified-utf : (name : List ℕ) → IsText name → modified (utf name) ≡ name
modified-utf name is = ap (λ t. modified (utf t)) (sym is.2) ∙ all is.0 is.1 ∙ is.2
  where
    all : (cs : List (List ℕ)) → list_all is_character cs ≡ true → modified (utf (concat cs)) ≡ concat cs
    all [] h = refl
    all (c ∷ cs) h =
        let tests = and_parts (is_character c) (list_all is_character cs) h in
        modified-character c (concat cs) tests.0 ∙ ap (λ t. c ++ t) (all cs tests.1)
