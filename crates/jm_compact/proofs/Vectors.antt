-- The definitions, evaluated on small classes.
use Rattle.std.proofs.Common.{◌≡◌, ℕ, List, [], ◌∷◌, ◌++◌, length, take, drop, Ok, refl}
use Rattle.jm_poolmap.proofs.Vectors.{generated}
use Rattle.jm_compact.specs.Compact.{compact_for}

-- the generated class loses its constants 8 to 10; the Long after them gets their number
abbrev compacted : List ℕ
compacted =
    take 8 generated ++ (0 ∷ 10 ∷ []) ++ take 58 (drop 10 generated) ++ take 43 (drop 112 generated)
    ++ (20 ∷ 0 ∷ 8 ∷ 173 ∷ 0 ∷ 0 ∷ 0 ∷ 0 ∷ 0 ∷ 0 ∷ [])

generated-length : length compacted ≡ 121
generated-length = refl

generated-compacted : compact_for 21 generated ≡ Ok compacted
generated-compacted = refl

generated-again : compact_for 21 compacted ≡ Ok compacted
generated-again = refl
