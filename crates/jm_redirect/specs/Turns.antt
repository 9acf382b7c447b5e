-- The turns of names, as the code orders them (this project's rule).
use Rattle.std.specs.Prelude.{ℕ, ◌-◌, ◌%◌, ◌==◌, List, length, map, filter, slice_index}
use Rattle.std.specs.List.{range_with_len}
use Rattle.std.specs.declared.cmp.Ordering.{Ordering}
use Rattle.std.specs.Ordering.{nat_cmp, ordering_then}
use Rattle.jm_redirect.specs.declared.turns.Turn.{Turn}

-- how many of the hashes fall into a bucket
abbrev pub size_of : List ℕ → ℕ → ℕ → ℕ
size_of hashes slots bucket = length (filter (λ hash. hash % slots == bucket) hashes)

-- the turn of the name at a place, by the hashes of all names: how many fall into other buckets,
-- its bucket, its place
abbrev pub turn_at : List ℕ → ℕ → ℕ → Turn
turn_at hashes slots place = record {
  others = length hashes - size_of hashes slots (slice_index hashes place % slots);
  bucket = slice_index hashes place % slots;
  place = place;
}

-- the turns of all names, by rising place
abbrev pub turns_of : List ℕ → ℕ → List Turn
turns_of hashes slots = map (turn_at hashes slots) (range_with_len 0 (length hashes))

-- the order of turns: few others first, then by bucket, then by place
abbrev pub turn_cmp : Turn → Turn → Ordering
turn_cmp a b =
    ordering_then (nat_cmp a.others b.others)
    (ordering_then (nat_cmp a.bucket b.bucket) (nat_cmp a.place b.place))
