-- The pairs that a map of names and bytes is seen as.
use Rattle.std.specs.Prelude.{ℕ, List, map}
use Rattle.std.specs.declared.vec.Vec.{Vec}
use Rattle.std.specs.declared.alloc.Global.{Global}

-- the entries of a map, as lists of bytes
abbrev pub pairs_of : List (Vec ℕ Global × Vec ℕ Global) → List (List ℕ × List ℕ)
pairs_of entries = map (λ e. (e.0.items, e.1.items)) entries
