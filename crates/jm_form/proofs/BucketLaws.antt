-- Laws of the buckets of a table, in the order in which they are taken.
use Rattle.std.proofs.Common.{◌≡◌, ◌≢◌, ℕ, zero, suc, ◌==◌, ◌<◌, ◌≤◌, ◌⊎◌, inl, inr, List, length, AllPairs, Contains, sym, ap, ◌∙◌, arith}
use Rattle.std.proofs.lemmas.Bool.{eqb-true, eq-eqb, cases_eq}
use Rattle.std.proofs.lemmas.List.Elements.{Contains-append_left, Contains-append_right, Contains-append_cases}
use Rattle.std.proofs.lemmas.List.Kept.{AllPairs-filter}
use Rattle.std.specs.List.{range_with_len}
use Rattle.jm_bytes.proofs.Members.{contains_none, contains_filter, from_filter, contains_range, from_range, length_filter}
use Rattle.jm_bytes.proofs.Pairs.{pairs_none, pairs_append, pairs_among, range_rises}
use Rattle.jm_form.specs.Greedy.{bucket_of, names_in, buckets_of_size, buckets_up_to, buckets_in_turn}

-- The buckets in turn

abbrev pub size_in : List (List ℕ) → ℕ → ℕ → ℕ
size_in names slots bucket = length (names_in names slots bucket)

-- one bucket is taken before another
abbrev pub TakenBefore : List (List ℕ) → ℕ → ℕ → ℕ → Type 0
TakenBefore names slots a b = (size_in names slots b < size_in names slots a) ⊎ ((size_in names slots a ≡ size_in names slots b) × (a < b))

pub size_le : (names : List (List ℕ)) (slots bucket : ℕ) → size_in names slots bucket ≤ length names
size_le names slots bucket = length_filter (λ name. bucket_of slots name == bucket) names

-- a bucket that is taken
pub record IsBucket (names : List (List ℕ)) (slots size bucket : ℕ) : Type 0 where
  pub below : bucket < slots
  pub some : 0 < size_in names slots bucket
  pub within : size_in names slots bucket ≤ size

of_size : (names : List (List ℕ)) (slots size bucket : ℕ) → Contains (buckets_of_size names slots size) bucket → (bucket < slots)
    × (size_in names slots bucket ≡ size)
of_size names slots size bucket there =
    let both = from_filter (λ b. size_in names slots b == size) (range_with_len 0 slots) bucket there in
    let range = from_range 0 slots bucket both.0 in
    (omega (arith, range.1), eqb-true (size_in names slots bucket) size both.1)

from_up_to : (names : List (List ℕ)) (slots size bucket : ℕ) → Contains (buckets_up_to names slots size) bucket
    → IsBucket names slots size bucket
from_up_to names slots zero bucket there = absurd (contains_none bucket there)
from_up_to names slots (suc size) bucket there =
    elim (Contains-append_cases (buckets_of_size names slots (suc size)) (buckets_up_to names slots size) bucket there) [
      | inl here ↦
          let of = of_size names slots (suc size) bucket here in
          record { below = of.0; some = omega (arith, of.1); within = omega (arith, of.1) }
      | inr later ↦
          let rest = from_up_to names slots size bucket later in
          record { below = rest.below; some = rest.some; within = omega (arith, rest.within) }
    ]

contains_up_to : (names : List (List ℕ)) (slots size bucket : ℕ) → IsBucket names slots size bucket
    → Contains (buckets_up_to names slots size) bucket
contains_up_to names slots zero bucket is = absurd (omega (arith, is.some, is.within))
contains_up_to names slots (suc size) bucket is =
    elim (cases_eq (size_in names slots bucket) (suc size)) [
      | inl same ↦
          let place = contains_range 0 slots bucket (omega arith) (omega (arith, is.below)) in
          Contains-append_left (buckets_of_size names slots (suc size)) (buckets_up_to names slots size) bucket
          (contains_filter (λ b. size_in names slots b == suc size) (range_with_len 0 slots) bucket place
          (eq-eqb (size_in names slots bucket) (suc size) same))
      | inr other ↦
          Contains-append_right (buckets_of_size names slots (suc size)) (buckets_up_to names slots size) bucket
          (contains_up_to names slots size bucket (record {
            below = is.below;
            some = is.some;
            within =
                omega (arith, is.within, other);
          }))
    ]

up_to_in_turn : (names : List (List ℕ)) (slots size : ℕ) → AllPairs (TakenBefore names slots) (buckets_up_to names slots size)
up_to_in_turn names slots zero = pairs_none (TakenBefore names slots)
up_to_in_turn names slots (suc size) =
    let here = buckets_of_size names slots (suc size) in
    let rising : AllPairs (λ a b. a < b) here = AllPairs-filter (λ a b. a < b) (λ b. size_in names slots b == suc size)
    (range_with_len 0 slots) (range_rises 0 slots) in
    let front = pairs_among (λ a b. a < b) (TakenBefore names slots) here (λ a b in_a in_b below. inr
    ((of_size names slots (suc size) a in_a).1 ∙ sym (of_size names slots (suc size) b in_b).1, below)) rising in
    pairs_append (TakenBefore names slots) here (buckets_up_to names slots size) front (up_to_in_turn names slots size)
    (λ a b in_a in_b.
    let of = of_size names slots (suc size) a in_a in
    let rest = from_up_to names slots size b in_b in
    inl (omega (arith, of.1, rest.within)))

-- what is taken, and in which order
pub from_turn : (names : List (List ℕ)) (slots bucket : ℕ) → Contains (buckets_in_turn names slots) bucket
    → IsBucket names slots (length names) bucket
from_turn names slots bucket there = from_up_to names slots (length names) bucket there

pub contains_turn : (names : List (List ℕ)) (slots bucket : ℕ) → bucket < slots → 0 < size_in names slots bucket
    → Contains (buckets_in_turn names slots) bucket
contains_turn names slots bucket below some = contains_up_to names slots (length names) bucket (record {
  below = below;
  some =
      some;
  within = size_le names slots bucket;
})

pub taken_in_turn : (names : List (List ℕ)) (slots : ℕ) → AllPairs (TakenBefore names slots) (buckets_in_turn names slots)
taken_in_turn names slots = up_to_in_turn names slots (length names)

apart : (names : List (List ℕ)) (slots a b : ℕ) → TakenBefore names slots a b → a ≢ b
apart names slots a b (inl larger) same = let sizes = ap (size_in names slots) same in omega (arith, larger, sizes)
apart names slots a b (inr (sizes, below)) same = omega arith

-- each bucket is taken once
pub turns_differ : (names : List (List ℕ)) (slots : ℕ) → AllPairs (λ a b. a ≢ b) (buckets_in_turn names slots)
turns_differ names slots = pairs_among (TakenBefore names slots) (λ a b. a ≢ b) (buckets_in_turn names slots)
    (λ a b in_a in_b before. apart names slots a b before) (taken_in_turn names slots)
