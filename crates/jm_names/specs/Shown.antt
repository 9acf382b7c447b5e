-- A name as it is shown in a line of output, so that one line stays one line (this project's rule):
-- in UTF-8 (RFC 3629), with each control character of one byte written out. A terminal may act on
-- other characters too, as U+0080 to U+009F; these stay.
use Rattle.std.specs.Prelude.{◌≡◌, ℕ, ◌/◌, ◌%◌, ◌==◌, nat_lt, Bool, true, false, ◌||◌, List, []}
use Rattle.std.specs.Prelude.{◌∷◌, ◌++◌, All, codes, count_by, flat_map, if◌then◌else◌}
use Rattle.std.specs.Fmt.{digit_glyph}
use Rattle.jm_names.specs.UtfForms.{utf}

-- a control character of one byte: one below the space, or 0x7F
abbrev pub is_control : ℕ → Bool
is_control b = nat_lt b 0x20 || b == 0x7F

-- a byte as it is shown: a control character by `\x` and its two digits, of 0 to 9 and A to F;
-- every other one as it is
abbrev pub shown_byte : ℕ → List ℕ
shown_byte b =
    if is_control b
    then codes "\\x" ++ digit_glyph true (b / 16) ∷ digit_glyph true (b % 16) ∷ []
    else b ∷ []

-- a text of UTF-8, as the path of a file, as it is shown
abbrev pub shown_text : List ℕ → List ℕ
shown_text text = flat_map shown_byte text

-- a name that is stored in Modified UTF-8 as it is shown
abbrev pub shown : List ℕ → List ℕ
shown name = shown_text (utf name)

-- a text without a control character of one byte: it ends no line
abbrev pub StaysInLine : List ℕ → Type 0
StaysInLine text = All (λ b. is_control b ≡ false) text

-- how many lines end in a text
abbrev pub newlines : List ℕ → ℕ
newlines text = count_by (λ b. b == 10) text
