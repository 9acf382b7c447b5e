-- Names that have the numbers of their places (words of the proof).
use Rattle.std.specs.Prelude.{ℕ, ◌≡◌, List, position}
use Rattle.std.specs.Str.{bytes_eq}
use Rattle.jm_pattern.specs.Numbers.{number_of}

-- each name has the number of the place at which it stands first, and no other name has one
abbrev pub AreNumbered : List (List ℕ) → List (List ℕ × ℕ) → Type 0
AreNumbered names numbers =
    (name : List ℕ) → number_of name numbers ≡ position (bytes_eq name) names
