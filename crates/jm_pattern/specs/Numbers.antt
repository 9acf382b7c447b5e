-- Texts, each with a number (this project's rule).
use Rattle.std.specs.Prelude.{ℕ, List, [], ◌∷◌, ◌++◌, Option, map, is_some, if◌then◌else◌}
use Rattle.std.specs.Map.{lookup}
use Rattle.std.specs.Str.{bytes_eq}
use Rattle.std.specs.declared.vec.Vec.{Vec}
use Rattle.std.specs.declared.alloc.Global.{Global}

-- the number of a text, or none
abbrev pub number_of : List ℕ → List (List ℕ × ℕ) → Option ℕ
number_of text pairs = lookup (λ other. bytes_eq text other) pairs

-- the pairs, and last a text with its number, where it has none yet
abbrev pub with_number : List ℕ → ℕ → List (List ℕ × ℕ) → List (List ℕ × ℕ)
with_number text number pairs =
    if is_some (number_of text pairs) then pairs else pairs ++ (text, number) ∷ []

-- the texts and numbers of a map's entries
abbrev pub numbers_of : List (Vec ℕ Global × ℕ) → List (List ℕ × ℕ)
numbers_of entries = map (λ e. (e.0.items, e.1)) entries
