-- What a search for a match may cost: comparisons of a sign with a byte (words of the proof).
use Rattle.std.specs.Prelude.{◌==◌, ◌+◌, ◌∷◌, [], ℕ, List, if◌then◌else◌}
use Rattle.jm_pattern.specs.MatchingSteps.{behind_line}
use Rattle.jm_pattern.specs.declared.signs.Sign.{Sign}
use Rattle.jm_pattern.specs.declared.signs.Sign.TheVariants.{AnyRun, Run, One, Byte}

-- how many places a name's first line has: one in front of each of its bytes, its `/` among them,
-- and one at its end where it has no `/`
abbrev pub line_places : List ℕ → ℕ
line_places [] = 1
line_places (b ∷ name) = if b == 47 then 1 else 1 + line_places name

-- how many signs for one byte come first
abbrev pub block_length : List Sign → ℕ
block_length [] = 0
block_length (AnyRun ∷ signs) = 0
block_length (Run ∷ signs) = 0
block_length (One ∷ signs) = 1 + block_length signs
block_length (Byte b ∷ signs) = 1 + block_length signs

-- the signs from the first `**` on
abbrev pub behind_segment : List Sign → List Sign
behind_segment [] = []
behind_segment (AnyRun ∷ signs) = AnyRun ∷ signs
behind_segment (Run ∷ signs) = behind_segment signs
behind_segment (One ∷ signs) = behind_segment signs
behind_segment (Byte b ∷ signs) = behind_segment signs

-- what a segment costs whose first block has so many places: each sign is compared once for each
-- place in the line in which its block begins, and a `/` among the signs ends a line
abbrev pub segment_cost : ℕ → List Sign → List ℕ → ℕ
segment_cost places [] name = 0
segment_cost places (AnyRun ∷ signs) name = 0
segment_cost places (Run ∷ signs) name =
    line_places name + segment_cost (line_places name) signs name
segment_cost places (One ∷ signs) name = places + segment_cost places signs name
segment_cost places (Byte b ∷ signs) name =
    places + segment_cost places signs (if b == 47 then behind_line name else name)
