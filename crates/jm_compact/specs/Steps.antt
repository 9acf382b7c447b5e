-- How far compacting has come (words of the proof).
use Rattle.std.specs.Prelude.{ℕ, ◌≡◌, ◌+◌, ◌-◌, ◌==◌, ◌≤◌, Bool, List, [], ◌∷◌, length, map}
use Rattle.std.specs.Prelude.{slice_index_or, if◌then◌else◌}
use Rattle.std.specs.List.{flat_map, range_with_len}
use Rattle.jm_class.specs.Classes.{SlotData, slot_text}
use Rattle.jm_poolmap.specs.declared.site.Site.{Site}
use Rattle.jm_compact.specs.declared.numbers.Numbers.{Numbers}
use Rattle.jm_compact.specs.Pieces.{size}
use Rattle.jm_compact.specs.Compact.{kept_before, renamed, kept}

-- sites in their order, from a place on and up to an end
abbrev pub AreIn : List Site → ℕ → ℕ → Type 0
AreIn [] at end = at ≤ end
AreIn (site ∷ sites) at end =
    (at ≤ site.place) × AreIn sites (site.place + size site.wide) end

-- the new number of each slot's constant, and of one after them all
pub record AreNumbers (flags : List Bool) (numbers : Numbers) : Type 0 where
  pub slots : numbers.slots
      ≡ map (λ place. 1 + kept_before flags place) (range_with_len 0 (length flags))
  pub count : numbers.count ≡ 1 + kept_before flags (length flags)

-- the new number that a table of them gives of a number
abbrev pub by_numbers : Numbers → ℕ → ℕ
by_numbers numbers index =
    if index == 0 then 0 else slice_index_or numbers.slots (index - 1) numbers.count

-- the text of the constants that are kept, which name others by new numbers
abbrev pub kept_text : (ℕ → ℕ) → List Bool → List SlotData → List ℕ
kept_text new flags pool = flat_map slot_text (map (renamed new) (kept flags pool))
