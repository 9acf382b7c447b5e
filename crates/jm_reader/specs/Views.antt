-- The name of an entry in its four pieces (jimage 1.0: `/module/parent/base.extension`).
use Rattle.std.specs.Prelude.{ℕ, ◌+◌, List, [], ◌∷◌, length}
use Rattle.jm_names.specs.Names.{Cut}

-- the four pieces of a name together
abbrev pub cut_from : List ℕ → List ℕ → List ℕ → List ℕ → Cut
cut_from «module» parent base ext =
    record { «module» = «module»; parent = parent; base = base; ext = ext }

-- the mark of a piece, which stands in a name only where the piece isn't empty
abbrev pub mark_of : List ℕ → List ℕ → List ℕ
mark_of [] mark = []
mark_of (b ∷ piece) mark = mark

-- how many bytes a piece takes in a name with so many marks
abbrev pub marked_length : List ℕ → ℕ → ℕ
marked_length [] marks = 0
marked_length (b ∷ piece) marks = length (b ∷ piece) + marks

-- the base and the extension alone
abbrev pub without_folder : Cut → Cut
without_folder cut = cut_from [] [] cut.base cut.ext
