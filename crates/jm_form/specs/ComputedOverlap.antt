-- The first overlap as a value: the computed form of `IsFirstOverlap`, for ranges by rising slot.
use Rattle.std.specs.Prelude.{ℕ, ◌==◌, nat_lt, ◌&&◌, not, min, max, Bool, List, find, Option, Some}
use Rattle.std.specs.Prelude.{None, option_map}
use Rattle.std.specs.List.{list_any}
use Rattle.jm_form.specs.declared.ranges.Range.{Range}

-- two ranges of different slots have a byte in common
abbrev pub meets : Range → Range → Bool
meets r s = not (r.slot == s.slot) && nat_lt (max r.start s.start) (min r.end s.end)

-- one of all ranges has a byte in common with r
abbrev pub meets_one : List Range → Range → Bool
meets_one all r = list_any (meets r) all

-- the slots of a range and of the first one that meets it, or none
abbrev pub overlap_of : List Range → Range → Option (ℕ × ℕ)
overlap_of rs r = option_map (λ s. (r.slot, s.slot)) (find (meets r) rs)

-- the same of a range that was found, none where none was
abbrev pub overlap_from : List Range → Option Range → Option (ℕ × ℕ)
overlap_from rs None = None
overlap_from rs (Some r) = overlap_of rs r

-- `IsFirstOverlap` as a value: the slots of the first range that meets another one, and of the
-- first range that meets it
abbrev pub first_overlap : List Range → Option (ℕ × ℕ)
first_overlap rs = overlap_from rs (find (meets_one rs) rs)
