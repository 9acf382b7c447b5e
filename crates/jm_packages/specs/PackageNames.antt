-- Names of packages: identifiers with dots between them (JLS 3.8, 6.5). An identifier begins with
-- no digit, is made of Java letters and digits, and is no word that Java keeps (JLS 3.9, 3.10.3 and
-- 3.10.8, and `_`). That each byte from 0x80 on is one of a letter is this project's rule.
use Rattle.std.specs.Prelude.{ℕ, nat_le, ◌==◌, Bool, false, not, ◌&&◌, ◌||◌, List, [], ◌∷◌, ◌++◌}
use Rattle.std.specs.Prelude.{codes}
use Rattle.std.specs.Char.{is_ascii_alphanumeric, is_ascii_digit}
use Rattle.std.specs.List.{list_all, list_any, slice_split}
use Rattle.std.specs.Str.{bytes_eq}
use Rattle.jm_names.specs.Names.{is_dot, is_empty}

-- a byte is a space
abbrev pub is_space : ℕ → Bool
is_space b = b == 32

-- the words that Java keeps, each in its place between spaces
abbrev pub java_words : List (List ℕ)
java_words = slice_split is_space
    (codes "abstract assert boolean break byte case catch char class const continue default do "
    ++ (codes "double else enum extends final finally float for goto if implements import "
    ++ (codes "instanceof int interface long native new package private protected public return "
    ++ (codes "short static strictfp super switch synchronized this throw throws transient try "
    ++ codes "void volatile while true false null _"))))

-- a byte of an identifier: an ASCII letter or digit, `_`, `$`, or one from 0x80 on
abbrev pub is_identifier_byte : ℕ → Bool
is_identifier_byte b = is_ascii_alphanumeric b || b == 95 || b == 36 || nat_le 128 b

-- a text begins with a digit
abbrev pub begins_with_digit : List ℕ → Bool
begins_with_digit [] = false
begins_with_digit (b ∷ text) = is_ascii_digit b

-- an identifier: it isn't empty, its bytes are those of one, it begins with no digit, and it is
-- none of the kept words
abbrev pub is_identifier : List ℕ → Bool
is_identifier text =
    not (is_empty text) && list_all is_identifier_byte text && not (begins_with_digit text)
    && not (list_any (λ word. bytes_eq text word) java_words)

-- the name of a package: the parts between its dots are identifiers
abbrev pub is_package_name : List ℕ → Bool
is_package_name name = list_all is_identifier (slice_split is_dot name)
