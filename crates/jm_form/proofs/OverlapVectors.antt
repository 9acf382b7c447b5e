-- The first overlap of up to four ranges, evaluated.
use Rattle.std.proofs.Common.{◌≡◌, ℕ, [], ◌∷◌, Option, Some, None, refl}
use Rattle.jm_form.specs.declared.ranges.Range.{Range}
use Rattle.jm_form.specs.ComputedOverlap.{first_overlap}

-- a range from one place up to another
abbrev range : ℕ → ℕ → ℕ → Range
range slot start end = record { start = start; slot = slot; end = end }

-- the first overlap of the ranges of slots 0 to 3 between these places
abbrev overlap : ℕ × ℕ → ℕ × ℕ → ℕ × ℕ → ℕ × ℕ → Option (ℕ × ℕ)
overlap a b c d = first_overlap (range 0 a.0 a.1 ∷ range 1 b.0 b.1 ∷ range 2 c.0 c.1 ∷ range 3 d.0 d.1 ∷ [])

no_byte : overlap (0, 0) (0, 0) (0, 0) (0, 0) ≡ None
no_byte = refl

empty_within : overlap (3, 9) (4, 4) (5, 5) (9, 9) ≡ None
empty_within = refl

neighbours_touch : overlap (4, 8) (0, 4) (8, 9) (9, 20) ≡ None
neighbours_touch = refl

one_byte : overlap (0, 5) (4, 8) (0, 0) (0, 0) ≡ Some (0, 1)
one_byte = refl

contains_two : overlap (0, 10) (2, 3) (5, 6) (0, 0) ≡ Some (0, 1)
contains_two = refl

within_a_later_one : overlap (5, 6) (2, 3) (0, 10) (0, 0) ≡ Some (0, 2)
within_a_later_one = refl

ends_before_the_next : overlap (8, 9) (1, 2) (0, 10) (0, 0) ≡ Some (0, 2)
ends_before_the_next = refl

equal_ranges : overlap (4, 6) (0, 2) (4, 6) (0, 0) ≡ Some (0, 2)
equal_ranges = refl

same_start : overlap (7, 9) (1, 2) (7, 8) (5, 7) ≡ Some (0, 2)
same_start = refl

far_apart_by_slot : overlap (10, 20) (0, 5) (30, 40) (19, 21) ≡ Some (0, 3)
far_apart_by_slot = refl

chain : overlap (6, 9) (0, 4) (3, 7) (8, 12) ≡ Some (0, 2)
chain = refl

behind_one_alone : overlap (50, 60) (0, 4) (70, 80) (3, 9) ≡ Some (1, 3)
behind_one_alone = refl

two_pairs : overlap (30, 40) (0, 9) (3, 4) (39, 50) ≡ Some (0, 3)
two_pairs = refl
