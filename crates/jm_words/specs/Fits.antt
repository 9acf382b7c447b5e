-- What is known of the values of a field (this project's rule): words of the proofs.
use Rattle.std.specs.Prelude.{ℕ, ◌≤◌, All, IsUtf8}
use Rattle.jm_words.specs.declared.given.Value.{Value}
use Rattle.jm_words.specs.declared.given.Value.TheVariants as value
use Rattle.jm_words.specs.declared.tables.Field.{Field}
use Rattle.jm_words.specs.Tables.{limits}

-- a number is within the limits of a field
abbrev pub IsWithin : Field → ℕ → Type 0
IsWithin field n = ((limits field).0 ≤ n) × (n ≤ (limits field).1)

-- a value fits a field: a path is text, and a number is within the limits of the field
abbrev pub Fits : Field → Value → Type 0
Fits field (value.Path path) = IsUtf8 path
Fits field (value.Paths paths) = All IsUtf8 paths
Fits field (value.Number n) = IsWithin field n
Fits field _ = Unit {0}
