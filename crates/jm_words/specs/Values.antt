-- What the text of an argument, or of an option's value, means, if it is of its form (this
-- project's rule).
use Rattle.std.specs.Prelude.{ℕ, ◌+◌, ◌*◌, ◌-◌, Bool, false, nat_le, ◌==◌, ◌&&◌, List, []}
use Rattle.std.specs.Prelude.{◌∷◌, map, Option, Some, None, option_map}
use Rattle.std.specs.Prelude.{Result, Ok, Err, if◌then◌else◌, codes}
use Rattle.std.specs.List.{after_first, list_all, list_any, slice_split}
use Rattle.std.specs.Str.{bytes_eq}
use Rattle.jm_bytes.specs.declared.words.Order.{Order}
use Rattle.jm_bytes.specs.declared.words.Order.TheVariants.{Little, Big}
use Rattle.jm_names.specs.Names.{is_slash, is_empty}
use Rattle.jm_names.specs.UtfForms.{modified}
use Rattle.jm_pattern.specs.declared.signs.Sign.{Sign}
use Rattle.jm_pattern.specs.declared.signs.PatternFault.{PatternFault}
use Rattle.jm_pattern.specs.Items.{list_of}

-- a byte in front of a text without slashes at its end; a slash in front of no byte is left out
abbrev pub before_text : ℕ → List ℕ → List ℕ
before_text b [] = if is_slash b then [] else b ∷ []
before_text b (c ∷ text) = b ∷ c ∷ text

-- a text without the slashes at its end
abbrev pub without_slashes : List ℕ → List ℕ
without_slashes [] = []
without_slashes (b ∷ text) = before_text b (without_slashes text)

-- the parts of a text that the bytes of a number cut; 58 is `:` and 44 is `,`
abbrev pub parts_at : ℕ → List ℕ → List (List ℕ)
parts_at byte text = slice_split (λ b. b == byte) text

-- what stands behind the first byte of a number in a text, if it has one
abbrev pub behind_first : ℕ → List ℕ → Option (List ℕ)
behind_first byte text =
    if list_any (λ b. b == byte) text then Some (after_first (λ b. b == byte) text) else None

-- a text that has a byte
abbrev pub path_of : List ℕ → Option (List ℕ)
path_of text = if is_empty text then None else Some text

-- a path in an image, which has a byte, in Modified UTF-8
abbrev pub inner_path_of : List ℕ → Option (List ℕ)
inner_path_of text = option_map modified (path_of text)

-- a folder: what is left of a text without the slashes at its end, if anything is
abbrev pub folder_of : List ℕ → Option (List ℕ)
folder_of text = path_of (without_slashes text)

-- some texts, if each of them has a byte
abbrev pub unless_empty : List (List ℕ) → Option (List (List ℕ))
unless_empty texts = if list_any is_empty texts then None else Some texts

-- the folders of a text, cut at `:`, if something is left of each without the slashes at its end
abbrev pub folders_of : List ℕ → Option (List (List ℕ))
folders_of text = unless_empty (map without_slashes (parts_at 58 text))

-- the names of modules in a text, cut at `,`, in Modified UTF-8, if each has a byte
abbrev pub names_of : List ℕ → Option (List (List ℕ))
names_of text = unless_empty (map modified (parts_at 44 text))

-- the patterns of a list that reads as some
abbrev pub patterns_if_ok : Result (List (List Sign)) PatternFault → Option (List (List Sign))
patterns_if_ok (Ok patterns) = Some patterns
patterns_if_ok (Err fault) = None

-- the patterns of a text in Modified UTF-8, if it is a comma list of patterns
abbrev pub patterns_of : List ℕ → Option (List (List Sign))
patterns_of text = patterns_if_ok (list_of (modified text))

-- the order of bytes that a text names: `little` or `big`
abbrev pub order_of : List ℕ → Option Order
order_of text =
    if bytes_eq text (codes "little") then Some Little
    else if bytes_eq text (codes "big") then Some Big
    else None

-- a byte is a digit
abbrev pub is_digit : ℕ → Bool
is_digit b = nat_le 48 b && nat_le b 57

-- the number that digits write behind those of another one
abbrev pub decimal_from : ℕ → List ℕ → ℕ
decimal_from n [] = n
decimal_from n (digit ∷ digits) = decimal_from (n * 10 + (digit - 48)) digits

-- `0` alone, or digits of which the first is another
abbrev pub is_numeral : List ℕ → Bool
is_numeral [] = false
is_numeral (b ∷ text) = if b == 48 then is_empty text else list_all is_digit (b ∷ text)

-- the number of a text, if it is one within the limits
abbrev pub number_of : ℕ × ℕ → List ℕ → Option ℕ
number_of limits text =
    if is_numeral text
    && (nat_le limits.0 (decimal_from 0 text) && nat_le (decimal_from 0 text) limits.1)
    then Some (decimal_from 0 text)
    else None
