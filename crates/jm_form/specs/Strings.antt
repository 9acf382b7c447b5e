-- The strings section of an image that is written (jimage 1.0): different texts, each with a zero
-- byte behind it.
use Rattle.std.specs.Prelude.{ℕ, ◌+◌, List, [], ◌∷◌, ◌++◌, length, Option, Some, None, option_map}
use Rattle.std.specs.Prelude.{is_some, Contains, if◌then◌else◌}
use Rattle.std.specs.List.{flat_map}
use Rattle.std.specs.Str.{bytes_eq}

-- each text followed by a zero byte
abbrev pub section_of : List (List ℕ) → List ℕ
section_of texts = flat_map (λ text. text ++ 0 ∷ []) texts

-- the place of a text in the section, or none where it isn't held
abbrev pub place_of : List ℕ → List (List ℕ) → Option ℕ
place_of text [] = None
place_of text (first ∷ texts) =
    if bytes_eq text first then Some 0
    else option_map (λ place. (length first + 1) + place) (place_of text texts)

-- the texts with one more, which goes last where it isn't held
abbrev pub with_text : List ℕ → List (List ℕ) → List (List ℕ)
with_text text texts = if is_some (place_of text texts) then texts else texts ++ text ∷ []

-- no byte is zero
abbrev pub IsZeroFree : List ℕ → Type 0
IsZeroFree text = Contains text 0 → ⊥
