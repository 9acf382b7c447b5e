-- The pieces of a name with their marks (this project's rule).
use Rattle.std.specs.Prelude.{ℕ, List, [], ◌∷◌, ◌++◌}

-- a text between two marks, or nothing where it is empty
abbrev pub with_marks : List ℕ → List ℕ → List ℕ → List ℕ
with_marks before [] behind = []
with_marks before (b ∷ bs) behind = before ++ ((b ∷ bs) ++ behind)
