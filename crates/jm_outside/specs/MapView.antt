-- The files that a map of paths and bytes is seen as.
use Rattle.std.specs.Prelude.{ℕ, map}
use Rattle.std.specs.declared.vec.Vec.{Vec}
use Rattle.std.specs.declared.alloc.Global.{Global}
use Rattle.std.specs.BTreeMap.{BTreeMap}
use Rattle.jm_outside.specs.Files.{Files}

-- the entries of the map, as lists of bytes
abbrev pub files_of : BTreeMap (Vec ℕ Global) (Vec ℕ Global) → Files
files_of m = map (λ e. (e.0.items, e.1.items)) m.entries
