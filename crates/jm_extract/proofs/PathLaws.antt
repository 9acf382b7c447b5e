-- A name that may stand in an image is UTF-8 once its pairs of surrogates are characters.
use Rattle.std.proofs.Common.{◌≡◌, ℕ, ◌+◌, ◌*◌, ◌-◌, ◌/◌, ◌%◌, ◌<◌, ◌≤◌, Bool, true, false, ◌==◌, nat_lt, rules}
use Rattle.std.proofs.Common.{List, [], ◌∷◌, ◌++◌, length, refl, sym, ap, subst, ◌∙◌, arith}
use lib.Utf8.{scalar, low_scalar}
use Rattle.std.specs.Str.{IsUtf8}
use Rattle.std.specs.Char.{encode_utf8}
use Rattle.std.specs.List.{concat, list_all}
use Rattle.std.proofs.lemmas.Bool.{false≢true, and_parts, ltb-true, ltb-false, eqb-true, eqb-false}
use Rattle.std.proofs.lemmas.Bool.Decides.{nat_tests}
use Rattle.std.proofs.lemmas.List.{take_all}
use Rattle.std.proofs.lemmas.Str.{IsUtf8-append, IsUtf8-encode, IsUtf8-nil}
use Rattle.jm_names.specs.Characters.{begins_three, goes_on, is_character, IsLongestText, IsText}
use Rattle.jm_names.specs.ComputedText.{text_len}
use Rattle.jm_names.specs.NameFaults.{IsSound}
use Rattle.jm_names.specs.UtfForms.{four_bytes, pair_number, utf}
use Rattle.jm_names.specs.declared.check.NameFault.TheVariants.{NotText}
use Rattle.jm_names.proofs.ComputedTextLaws.{text_len-longest}
use Rattle.jm_names.proofs.UtfLaws.{utf-byte, utf-low}

above_scalar : (c : ℕ) → 0xE000 ≤ c → c < 0x110000 → scalar c ≡ true
above_scalar c above below = grind (arith, nat_tests)

-- Characters by their bytes

abbrev two_number : ℕ → ℕ → ℕ
two_number a x = (a - 0xC0) * 64 + (x - 0x80)

abbrev three_number : ℕ → ℕ → ℕ → ℕ
three_number a x y = (a - 0xE0) * 4096 + (x - 0x80) * 64 + (y - 0x80)

one_text : (a : ℕ) → a < 0x80 → IsUtf8 (a ∷ [])
unfolding encode_utf8
one_text a low =
    let e : encode_utf8 a ≡ a ∷ [] = grind (arith, nat_tests) in
    subst IsUtf8 e (IsUtf8-encode a (low_scalar a (omega (arith, low))))

two_text : (a x : ℕ) → 0xC2 ≤ a → a ≤ 0xDF → 0x80 ≤ x → x ≤ 0xBF → IsUtf8 (a ∷ x ∷ [])
unfolding encode_utf8
two_text a x above below high low =
    let c = two_number a x in
    let first : nat_lt c 0x80 ≡ false = grind (arith, nat_tests) in
    let second : nat_lt c 0x800 ≡ true = grind (arith, nat_tests) in
    let front : 192 + c / 64 ≡ a = omega (arith, above, below, high, low) in
    let last : 128 + c % 64 ≡ x = omega (arith, above, below, high, low) in
    let e : encode_utf8 c ≡ a ∷ x ∷ [] = rw (first, second, front, last) refl in
    subst IsUtf8 e (IsUtf8-encode c (low_scalar c (omega (arith, above, below, high, low))))

three_scalar : (a x y : ℕ) → 0xE0 ≤ a → a ≤ 0xEF → 0x80 ≤ x → x ≤ 0xBF → 0x80 ≤ y → y ≤ 0xBF → (a ≡ 0xED → x < 0xA0)
    → scalar (three_number a x y) ≡ true
three_scalar a x y above below high low more less surrogate = go (nat_lt a 0xED) (a == 0xED) refl refl
  where
    go : (b c : Bool) → nat_lt a 0xED ≡ b → (a == 0xED) ≡ c → scalar (three_number a x y) ≡ true
    go true c l e =
        let under = ltb-true a 0xED l in
        low_scalar (three_number a x y) (omega (arith, under, above, high, low, more, less))
    go false true l e =
        let is = eqb-true a 0xED e in
        let under = surrogate is in
        low_scalar (three_number a x y) (omega (arith, is, under, high, low, more, less))
    go false false l e =
        let one = ltb-false a 0xED l in
        let other = eqb-false a 0xED e in
        above_scalar (three_number a x y) (omega (arith, one, other, high, low, more, less))
        (omega (arith, below, above, high, low, more, less))

three_text : (a x y : ℕ) → 0xE0 ≤ a → a ≤ 0xEF → 0x80 ≤ x → x ≤ 0xBF → 0x80 ≤ y → y ≤ 0xBF → (a ≡ 0xE0 → 0xA0 ≤ x)
    → (a ≡ 0xED → x < 0xA0) → IsUtf8 (a ∷ x ∷ y ∷ [])
unfolding encode_utf8
three_text a x y above below high low more less overlong surrogate =
    let c = three_number a x y in
    let long : 0x800 ≤ c = go (a == 0xE0) refl in
    let first : nat_lt c 0x80 ≡ false = grind (arith, nat_tests) in
    let second : nat_lt c 0x800 ≡ false = grind (arith, nat_tests) in
    let third : nat_lt c 0x10000 ≡ true = grind (arith, nat_tests) in
    let front : 224 + c / 4096 ≡ a = omega (arith, above, below, high, low, more, less) in
    let middle : 128 + c / 64 % 64 ≡ x = omega (arith, above, below, high, low, more, less) in
    let last : 128 + c % 64 ≡ y = omega (arith, above, below, high, low, more, less) in
    let e : encode_utf8 c ≡ a ∷ x ∷ y ∷ [] = rw (first, second, third, front, middle, last) refl in
    subst IsUtf8 e (IsUtf8-encode c (three_scalar a x y above below high low more less surrogate))
  where
    go : (b : Bool) → (a == 0xE0) ≡ b → 0x800 ≤ three_number a x y
    go true e =
        let is = eqb-true a 0xE0 e in
        let over = overlong is in
        omega (arith, is, over, more)
    go false e = let other = eqb-false a 0xE0 e in omega (arith, other, above, high, more)

four_text : (c : ℕ) → 0x10000 ≤ c → c < 0x110000 → IsUtf8 (four_bytes c)
unfolding encode_utf8
four_text c above below =
    let first : nat_lt c 0x80 ≡ false = grind (arith, nat_tests) in
    let second : nat_lt c 0x800 ≡ false = grind (arith, nat_tests) in
    let third : nat_lt c 0x10000 ≡ false = grind (arith, nat_tests) in
    let e : encode_utf8 c ≡ four_bytes c = rw (first, second, third) refl in
    subst IsUtf8 e (IsUtf8-encode c (above_scalar c (omega (arith, above)) below))

goes_on_parts : (x : ℕ) → goes_on x ≡ true → (0x80 ≤ x) × (x ≤ 0xBF)
goes_on_parts x h = grind (arith, nat_tests)

no_surrogate : (x : ℕ) → x ≤ 0xBF → (x == 0xED) ≡ false
no_surrogate x h = grind (arith, nat_tests)

-- the first two of three bytes, in numbers
record InThree (a x : ℕ) : Type 0 where
  above : 0xE0 ≤ a
  below : a ≤ 0xEF
  high : 0x80 ≤ x
  low : x ≤ 0xBF
  overlong : a ≡ 0xE0 → 0xA0 ≤ x
  surrogate : a ≡ 0xED → x < 0xA0

three_parts : (a x : ℕ) → begins_three a x ≡ true → InThree a x
three_parts a x h = search (rules, nat_tests)

-- A run of characters

character_text : (c rest : List ℕ) → is_character c ≡ true → IsUtf8 (utf rest) → IsUtf8 (utf (c ++ rest))
character_text [] rest h text = absurd (false≢true h)
character_text (a ∷ []) rest h text =
    let l : a < 0x80 = grind (arith, nat_tests) in
    subst IsUtf8 (sym (utf-byte a rest (grind (arith, nat_tests)))) (IsUtf8-append (a ∷ []) (utf rest) (one_text a l) text)
character_text (a ∷ x ∷ []) rest h text =
    let l : (0xC2 ≤ a) × (a ≤ 0xDF) × (0x80 ≤ x) × (x ≤ 0xBF) = grind (arith, nat_tests) in
    let same : utf (a ∷ x ∷ rest) ≡ a ∷ x ∷ utf rest =
    utf-byte a (x ∷ rest) (grind (arith, nat_tests)) ∙ ap (λ t. a ∷ t) (utf-byte x rest (grind (arith, nat_tests)))
    in
    subst IsUtf8 (sym same) (IsUtf8-append (a ∷ x ∷ []) (utf rest) (two_text a x l.0 l.1 l.2 l.3) text)
character_text (a ∷ x ∷ y ∷ []) rest h text =
    let tests = and_parts (begins_three a x) (goes_on y) h in
    let l = three_parts a x tests.0 in
    let m : (0x80 ≤ y) × (y ≤ 0xBF) = goes_on_parts y tests.1 in
    let second = l.low in
    let third = m.1 in
    let same : utf (a ∷ x ∷ y ∷ rest) ≡ a ∷ x ∷ y ∷ utf rest =
    front (a == 0xED) refl l.surrogate ∙ ap (λ t. a ∷ t) (utf-byte x (y ∷ rest) (no_surrogate x second)
    ∙ ap (λ t. x ∷ t) (utf-byte y rest (no_surrogate y third)))
    in
    subst IsUtf8 (sym same) (IsUtf8-append (a ∷ x ∷ y ∷ []) (utf rest) (three_text a x y l.above l.below l.high l.low m.0 m.1
    l.overlong l.surrogate) text)
  where
    front : (b : Bool) → (a == 0xED) ≡ b → (a ≡ 0xED → x < 0xA0) → utf (a ∷ x ∷ y ∷ rest) ≡ a ∷ utf (x ∷ y ∷ rest)
    front true is low = utf-low a x (y ∷ rest) (low (eqb-true a 0xED is))
    front false other low = utf-byte a (x ∷ y ∷ rest) other
character_text (a ∷ x ∷ y ∷ b ∷ []) rest h text = absurd (false≢true h)
character_text (a ∷ x ∷ y ∷ b ∷ z ∷ []) rest h text = absurd (false≢true h)
character_text (a ∷ x ∷ y ∷ b ∷ z ∷ w ∷ []) rest h text =
    let same : utf (a ∷ x ∷ y ∷ b ∷ z ∷ w ∷ rest) ≡ four_bytes (pair_number x y z w) ++ utf rest = rw h in
    let number : (0x10000 ≤ pair_number x y z w) × (pair_number x y z w < 0x110000) = (omega arith, omega arith) in
    subst IsUtf8 (sym same) (IsUtf8-append (four_bytes (pair_number x y z w)) (utf rest) (four_text (pair_number x y z w) number.0
    number.1) text)
character_text (a ∷ x ∷ y ∷ b ∷ z ∷ w ∷ u ∷ c) rest h text = absurd (false≢true h)

utf_text : (name : List ℕ) → IsText name → IsUtf8 (utf name)
utf_text name is = subst (λ (n : List ℕ). IsUtf8 (utf n)) is.2 (all is.0 is.1)
  where
    all : (cs : List (List ℕ)) → list_all is_character cs ≡ true → IsUtf8 (utf (concat cs))
    all [] h = IsUtf8-nil
    all (c ∷ cs) h =
        let tests = and_parts (is_character c) (list_all is_character cs) h in
        character_text c (concat cs) tests.0 (all cs tests.1)

-- a name that nothing is wrong with is a run of characters
sound_text : (name : List ℕ) → IsSound name → IsText name
sound_text name sound = go (nat_lt (text_len name) (length name)) refl
  where
    longest : IsLongestText (text_len name) name
    longest = text_len-longest name

    go : (b : Bool) → nat_lt (text_len name) (length name) ≡ b → IsText name
    go true less =
        absurd (sound (NotText (text_len name)) (
          λ text. longest.longest (length name) (ltb-true (text_len name) (length name) less)
              (omega arith) (subst IsText (sym (take_all (length name) name (omega arith))) text),
          longest,
        ))
    go false more =
        let within = ltb-false (text_len name) (length name) more in
        subst IsText (take_all (text_len name) name within) longest.text

-- the path of a file below a directory is UTF-8
pub path_text : (dir name : List ℕ) → IsUtf8 dir → IsSound name → IsUtf8 (dir ++ utf name)
path_text dir name text sound = IsUtf8-append dir (utf name) text (utf_text name (sound_text name sound))
