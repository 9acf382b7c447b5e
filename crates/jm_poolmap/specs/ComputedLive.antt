-- Live constants, marked round by round: the computed form of the flags.
use Rattle.std.specs.Prelude.{ℕ, ◌+◌, ◌-◌, ◌==◌, Bool, true, false, List, [], ◌∷◌, length}
use Rattle.std.specs.Prelude.{replicate, slice_index_or, slice_set, if◌then◌else◌}
use Rattle.jm_class.specs.Classes.{SlotData, Constant, Hole}
use Rattle.jm_poolmap.specs.Sites.{named_by}

-- flags with the constant of a number marked
abbrev pub with_mark : List Bool → ℕ → List Bool
with_mark flags index = if index == 0 then flags else slice_set flags (index - 1) true

-- flags with the constants of some numbers marked
abbrev pub with_marks : List Bool → List ℕ → List Bool
with_marks flags [] = flags
with_marks flags (index ∷ rest) = with_marks (with_mark flags index) rest

-- flags with what a slot names marked, if its own constant is
abbrev pub spread : ℕ → SlotData → List Bool → List Bool
spread place slot flags =
    if slice_index_or flags place false then with_marks flags (named_by slot) else flags

-- flags with what the marked slots from a place on name marked too
abbrev pub spread_from : ℕ → List SlotData → List Bool → List Bool
spread_from place [] flags = flags
spread_from place (slot ∷ pool) flags = spread_from (place + 1) pool (spread place slot flags)

-- a slot's own flag, or for a hole that of the constant before it
abbrev pub flag_of : SlotData → Bool → Bool → Bool
flag_of (Constant tag body) flag before = flag
flag_of Hole flag before = before

-- the flags of slots, where a hole has the flag of the constant before it
abbrev pub with_holes : Bool → List SlotData → List Bool → List Bool
with_holes before [] flags = []
with_holes before (slot ∷ pool) [] = []
with_holes before (slot ∷ pool) (flag ∷ flags) =
    flag_of slot flag before ∷ with_holes (flag_of slot flag before) pool flags

-- flags after three rounds: a constant names one of a lower rank, and ranks are at most 3
abbrev pub rounds : List SlotData → List Bool → List Bool
rounds pool flags = spread_from 0 pool (spread_from 0 pool (spread_from 0 pool flags))

-- the flags of a pool's slots, from the numbers that stand at sites
abbrev pub flags_of : List SlotData → List ℕ → List Bool
flags_of pool numbers =
    with_holes false pool (rounds pool (with_marks (replicate (length pool) false) numbers))
