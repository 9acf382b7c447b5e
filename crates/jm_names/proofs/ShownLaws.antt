-- Texts as they are shown: nothing in them ends a line, and a text without a control character is
-- shown as it is.
use Rattle.std.proofs.Common.{◌≡◌, ◌==◌, ◌||◌, ◌<◌, ◌+◌, ◌/◌, ◌%◌, ℕ, Bool, true, false, cond, List, [], ◌∷◌, ◌++◌}
use Rattle.std.proofs.Common.{zero, suc, refl, sym, ap, subst, ◌∙◌, arith}
use Rattle.std.specs.Fmt.{decimal, digit_glyph, digits, digits_onto}
use Rattle.std.specs.List.{list_any}
use Rattle.std.proofs.lemmas.Bool.Decides.{nat_tests}
use Rattle.std.proofs.lemmas.List.Concat.{flat_map-cons}
use Rattle.std.proofs.lemmas.List.Elements.{All-append, All-cons, All-head, All-nil, All-tail}
use Rattle.std.proofs.lemmas.List.Sums.{sum_by-append, sum_by-cons}
use Rattle.jm_names.specs.Shown.{is_control, newlines, shown_byte, shown_text, StaysInLine}

-- What is shown

digit_plain : (n : ℕ) → n < 16 → is_control (digit_glyph true n) ≡ false
digit_plain n small = grind (arith, nat_tests)

abbrev plain : ℕ → Type 0
plain b = is_control b ≡ false

high_small : (b : ℕ) → is_control b ≡ true → b / 16 < 16
high_small b is = grind (arith, nat_tests)

byte_plain : (b : ℕ) → StaysInLine (shown_byte b)
byte_plain b = go (is_control b) refl
  where
    go : (c : Bool) → is_control b ≡ c
        → StaysInLine (cond c (92 ∷ 120 ∷ digit_glyph true (b / 16) ∷ digit_glyph true (b % 16) ∷ []) (b ∷ []))
    go false is = All-cons plain b [] is (All-nil plain)
    go true is =
        let high : ℕ = digit_glyph true (b / 16) in
        let low : ℕ = digit_glyph true (b % 16) in
        All-cons plain 92 (120 ∷ high ∷ low ∷ []) refl (All-cons plain 120 (high ∷ low ∷ []) refl
        (All-cons plain high (low ∷ []) (digit_plain (b / 16) (high_small b is))
        (All-cons plain low [] (digit_plain (b % 16) (omega arith)) (All-nil plain))))

-- a text as it is shown has no control character
pub shown_stays : (text : List ℕ) → StaysInLine (shown_text text)
shown_stays [] = All-nil plain
shown_stays (b ∷ text) =
    subst StaysInLine (sym (flat_map-cons shown_byte b text))
    (All-append plain (shown_byte b) (shown_text text) (byte_plain b) (shown_stays text))

-- a text without one is shown as it is
pub shown_same : (text : List ℕ) → list_any is_control text ≡ false → shown_text text ≡ text
shown_same [] none = refl
shown_same (b ∷ text) none = go (is_control b) refl none (shown_same text)
  where
    go : (c : Bool) → is_control b ≡ c → (c || list_any is_control text) ≡ false
        → (list_any is_control text ≡ false → shown_text text ≡ text) → shown_text (b ∷ text) ≡ b ∷ text
    go true is none rest = cc
    go false is none rest =
        flat_map-cons shown_byte b text
        ∙ ap (λ c. cond c (92 ∷ 120 ∷ digit_glyph true (b / 16) ∷ digit_glyph true (b % 16) ∷ []) (b ∷ []) ++ shown_text text) is
        ∙ ap (λ l. b ∷ l) (rest none)

-- Newlines

-- of two texts one behind the other
pub newlines_append : (text other : List ℕ) → newlines (text ++ other) ≡ newlines text + newlines other
newlines_append text other = sum_by-append (λ b. cond (b == 10) 1 0) text other

-- a text without a control character has none
pub newlines_none : (text : List ℕ) → StaysInLine text → newlines text ≡ 0
newlines_none [] stays = refl
newlines_none (b ∷ text) stays =
    let cons : newlines (b ∷ text) ≡ cond (b == 10) 1 0 + newlines text = sum_by-cons (λ b. cond (b == 10) 1 0) b text in
    let first : ◌≡◌ {A = ℕ} (cond (b == 10) 1 0) 0 = go (b == 10) refl (All-head plain b text stays) in
    let rest : newlines text ≡ 0 = newlines_none text (All-tail plain b text stays) in
    omega arith
  where
    go : (c : Bool) → b == 10 ≡ c → is_control b ≡ false → ◌≡◌ {A = ℕ} (cond c 1 0) 0
    go false is none = refl
    go true is none = grind (arith, nat_tests)

-- Numbers

decimal_digit_plain : (n : ℕ) → is_control (digit_glyph false (n % 10)) ≡ false
decimal_digit_plain n = go (n % 10) (omega arith)
  where
    go : (d : ℕ) → d < 10 → is_control (digit_glyph false d) ≡ false
    go d small = grind (arith, nat_tests)

digits_stay : (k n : ℕ) (text : List ℕ) → StaysInLine text → StaysInLine (digits_onto k 10 false n text)
digits_stay zero n text stays = stays
digits_stay (suc k) n text stays =
    let digit : ℕ = digit_glyph false (n % 10) in
    let more : StaysInLine (digit ∷ text) = All-cons plain digit text (decimal_digit_plain n) stays in
    go (n / 10 == 0) more (digits_stay k (n / 10) (digit ∷ text) more)
  where
    go : (c : Bool) → StaysInLine (digit_glyph false (n % 10) ∷ text)
        → StaysInLine (digits_onto k 10 false (n / 10) (digit_glyph false (n % 10) ∷ text))
        → StaysInLine (cond c (digit_glyph false (n % 10) ∷ text) (digits_onto k 10 false (n / 10) (digit_glyph false (n % 10) ∷ text)))
    go true one more = one
    go false one more = more

-- a number has no control character
pub decimal_stays : (n : ℕ) → StaysInLine (decimal n)
unfolding digits
decimal_stays n = digits_stay 64 n [] (All-nil plain)
