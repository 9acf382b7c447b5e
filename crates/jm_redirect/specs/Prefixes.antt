-- Names that share a prefix (this project's rule).
use Rattle.std.specs.Prelude.{ℕ, ◌≡◌, List, length, take}

-- a name begins with a prefix
abbrev pub BeginsWith : List ℕ → List ℕ → Type 0
BeginsWith prefix name = take (length prefix) name ≡ prefix
