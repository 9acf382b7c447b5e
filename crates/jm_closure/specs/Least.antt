-- The least text with a property, or none (this project's rule).
use Rattle.std.specs.Prelude.{if◌then◌else◌, ℕ, List, Option, Some, None}
use Rattle.std.specs.Cmp.Lexicographic.{slice_cmp}
use Rattle.std.specs.Ordering.{is_le, nat_cmp}
use Rattle.jm_closure.specs.Refusals.{IsLeast, IsNone}

-- the least text with a property, or none where no text has it
abbrev pub IsLeastOf : (List ℕ → Type 0) → Option (List ℕ) → Type 0
IsLeastOf P None = IsNone P
IsLeastOf P (Some text) = IsLeast P text

-- the lesser of two texts, where there are two
abbrev pub lesser : Option (List ℕ) → Option (List ℕ) → Option (List ℕ)
lesser None b = b
lesser (Some a) None = Some a
lesser (Some a) (Some b) = if is_le (slice_cmp nat_cmp a b) then Some a else Some b
