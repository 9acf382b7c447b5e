-- The text of `extract` (this project's rule).
use Rattle.std.specs.Prelude.{ℕ, List, [], ◌∷◌, ◌++◌, codes}
use Rattle.std.specs.Fmt.{decimal}

-- the line of `extract`, with the number of the files that were made
abbrev pub extract_text : ℕ → List ℕ
extract_text count = codes "extracted " ++ decimal count ++ 10 ∷ []
