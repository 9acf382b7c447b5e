-- Modified UTF-8 (JVMS 4, "The CONSTANT_Utf8_info Structure"), with a zero byte as a character of
-- its own.
use Rattle.std.specs.Prelude.{◌≡◌, ℕ, ◌<◌, ◌≤◌, Bool, true, false, nat_le, ◌==◌, ◌&&◌, ◌||◌, List}
use Rattle.std.specs.Prelude.{[], ◌∷◌, length, take}
use Rattle.std.specs.List.{list_all, concat}

-- a number is from low to high
abbrev pub from_to : ℕ → ℕ → ℕ → Bool
from_to low high b = nat_le low b && nat_le b high

-- a byte goes on a character: it is from 0x80 to 0xBF
abbrev pub goes_on : ℕ → Bool
goes_on = from_to 0x80 0xBF

-- two bytes begin a character of three: it is neither an overlong form nor a surrogate
abbrev pub begins_three : ℕ → ℕ → Bool
begins_three a x =
    a == 0xE0 && from_to 0xA0 0xBF x || from_to 0xE1 0xEC a && goes_on x
    || (a == 0xED && from_to 0x80 0x9F x || from_to 0xEE 0xEF a && goes_on x)

-- three bytes are those of a surrogate whose second byte is from low to high
abbrev pub is_surrogate : ℕ → ℕ → ℕ → ℕ → ℕ → Bool
is_surrogate low high a x y = a == 0xED && from_to low high x && goes_on y

-- the bytes are one character; a high surrogate and a low one are one character together
abbrev pub is_character : List ℕ → Bool
is_character (a ∷ []) = from_to 0x00 0x7F a
is_character (a ∷ x ∷ []) = from_to 0xC2 0xDF a && goes_on x
is_character (a ∷ x ∷ y ∷ []) = begins_three a x && goes_on y
is_character (a ∷ x ∷ y ∷ b ∷ z ∷ w ∷ []) =
    is_surrogate 0xA0 0xAF a x y && is_surrogate 0xB0 0xBF b z w
is_character _ = false

-- the bytes are a run of characters: some list of characters concatenates to them
abbrev pub IsText : List ℕ → Type 0
IsText bytes =
    (characters : List (List ℕ)) × (list_all is_character characters ≡ true)
    × (concat characters ≡ bytes)

-- the front of this length is a run of characters, and no longer front is
pub record IsLongestText (at : ℕ) (bytes : List ℕ) : Type 0 where
  pub within : at ≤ length bytes
  pub text : IsText (take at bytes)
  pub longest : (n : ℕ) → at < n → n ≤ length bytes → ¬ IsText (take n bytes)
