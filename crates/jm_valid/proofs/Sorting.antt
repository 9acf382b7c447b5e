-- Ranges in the order of a sort, by start, then slot, then end.
use Rattle.std.proofs.Common.{◌≡◌, ◌≢◌, ℕ, ◌<◌, ◌≤◌, ◌==◌, Bool, false, List, length, get_or, AllPairs, IsPermutation, IsSorted, arith}
use Rattle.std.proofs.lemmas.Bool.Decides.{nat_tests}
use Rattle.std.proofs.lemmas.Cmp.{on_total, then_total, nat_cmp_total}
use Rattle.std.proofs.lemmas.List.Sorted.{ranks_by, sorted_far}
use Rattle.std.proofs.lemmas.Map.Keys.{IsDistinct-IsPermutation, IsDistinct-from_apart, apart_from_distinct}
use Rattle.std.specs.Cmp.{IsTotalOrder}
use Rattle.std.specs.declared.cmp.Ordering.{Ordering}
use Rattle.std.specs.Ordering.{is_lt, nat_cmp, ordering_then}
use Rattle.jm_form.specs.declared.ranges.Range.{Range}
use Rattle.jm_valid.specs.Ranges.{Follows}

abbrev range_cmp : Range → Range → Ordering
range_cmp a b = ordering_then (nat_cmp a.start b.start) (ordering_then (nat_cmp a.slot b.slot) (nat_cmp a.end b.end))

range_total : IsTotalOrder range_cmp
range_total =
    then_total (on_total (λ (r : Range). r.start) nat_cmp_total) (then_total (on_total (λ (r : Range). r.slot) nat_cmp_total)
    (on_total (λ (r : Range). r.end) nat_cmp_total))

start_le : (a b : Range) → is_lt (range_cmp b a) ≡ false → a.start ≤ b.start
start_le a b not_below = grind (arith, nat_tests)

starts_rise : (rs : List Range) → IsSorted range_cmp rs → (i j : ℕ) (d : Range) → i < j → j < length rs → (get_or rs i d).start
    ≤ (get_or rs j d).start
starts_rise rs sorted i j d before inside =
    start_le (get_or rs i d) (get_or rs j d) (sorted_far (λ x y. is_lt (range_cmp x y)) (ranks_by range_total (λ (r : Range). r)) rs
    sorted i j d (omega arith) inside)

abbrev same_slot : Range → Range → Bool
same_slot r s = r.slot == s.slot

flips : (a b : ℕ) → a == b ≡ b == a
flips a b = grind (arith, nat_tests)

below_apart : (a b : ℕ) → a < b → a == b ≡ false
below_apart a b below = grind (arith, nat_tests)

apart_differ : (a b : ℕ) → a == b ≡ false → a ≢ b
apart_differ a b apart same = grind (arith, nat_tests)

slots_differ : (rs ss : List Range) → AllPairs (λ r s. r.slot < s.slot) rs → IsPermutation rs ss → (i j : ℕ) (d : Range) → i < j
    → j < length ss → (get_or ss i d).slot ≢ (get_or ss j d).slot
slots_differ rs ss rising moved i j d before inside =
    let distinct = IsDistinct-from_apart same_slot rs (λ k l e front below. below_apart (get_or rs k e).slot (get_or rs l e).slot
    (rising k l e front below)) in
    let still = IsDistinct-IsPermutation same_slot (λ r s. flips r.slot s.slot) rs ss moved distinct in
    apart_differ (get_or ss i d).slot (get_or ss j d).slot (apart_from_distinct same_slot ss i j d still before inside)

-- ranges by rising slot that were sorted
pub sorted_follow : (rs ss : List Range) → AllPairs (λ r s. r.slot < s.slot) rs → IsPermutation rs ss → IsSorted range_cmp ss
    → AllPairs Follows ss
sorted_follow rs ss rising moved sorted i j d before inside = (
  starts_rise ss sorted i j d before inside,
  slots_differ rs ss rising
      moved i j d before inside,
)
