-- The greedy table of names (jimage 1.0; that 64 lengths are tried is this project's rule): which
-- redirect each bucket gets, and so which slot each name. It speaks of buckets and slots alone: no
-- seed that fails leaves anything.
use Rattle.std.specs.Prelude.{ℕ, zero, suc, ◌+◌, ◌-◌, ◌%◌, ◌^◌, ◌==◌, Bool, true, not, ◌&&◌}
use Rattle.std.specs.Prelude.{if◌then◌else◌}
use Rattle.std.specs.Prelude.{List, [], ◌∷◌, ◌++◌, length, map, filter, find}
use Rattle.std.specs.Prelude.{◌<◌, ◌≢◌, All, AllPairs, Contains}
use Rattle.std.specs.Prelude.{Option, Some, None, option_map, option_and_then, unwrap_or}
use Rattle.std.specs.List.{filter_map, list_any, list_all, range_with_len}
use Rattle.std.specs.Option.{option_or}
use Rattle.std.specs.Map.{lookup}
use Rattle.jm_names.specs.Hash.{hash, default_seed}
use Rattle.jm_form.specs.declared.table.Redirect.{Redirect}
use Rattle.jm_form.specs.declared.table.Redirect.TheVariants as redirect
use Rattle.jm_form.specs.Table.{slot_of}

-- Lengths

-- the length that is tried behind another: the next greater odd number
abbrev pub next_length : ℕ → ℕ
next_length length = if (length + 1) % 2 == 0 then length + 2 else length + 1

-- so many lengths, one after another, the first a given one
abbrev pub lengths_from : ℕ → ℕ → List ℕ
lengths_from zero length = []
lengths_from (suc count) length = length ∷ lengths_from count (next_length length)

-- the 64 lengths that are tried for so many names
unfoldable pub table_lengths : ℕ → List ℕ
table_lengths count = lengths_from 64 count

-- Buckets

-- the bucket of a name in a table of this length
abbrev pub bucket_of : ℕ → List ℕ → ℕ
bucket_of slots name = hash default_seed name % slots

-- the names of a bucket
abbrev pub names_in : List (List ℕ) → ℕ → ℕ → List (List ℕ)
names_in names slots bucket = filter (λ name. bucket_of slots name == bucket) names

-- the buckets that have so many names, by rising number
abbrev pub buckets_of_size : List (List ℕ) → ℕ → ℕ → List ℕ
buckets_of_size names slots size =
    filter (λ bucket. length (names_in names slots bucket) == size) (range_with_len 0 slots)

-- the buckets of at most so many names, but for the empty ones: by falling size, then by rising
-- number
abbrev pub buckets_up_to : List (List ℕ) → ℕ → ℕ → List ℕ
buckets_up_to names slots zero = []
buckets_up_to names slots (suc size) =
    buckets_of_size names slots (suc size) ++ buckets_up_to names slots size

-- the buckets in the order in which they are taken
abbrev pub buckets_in_turn : List (List ℕ) → ℕ → List ℕ
buckets_in_turn names slots = buckets_up_to names slots (length names)

-- What a bucket gets

-- a slot is in a list
abbrev pub is_among : List ℕ → ℕ → Bool
is_among taken slot = list_any (λ other. other == slot) taken

-- the slots differ
abbrev pub differ : List ℕ → Bool
differ [] = true
differ (slot ∷ slots) = not (is_among slots slot) && differ slots

-- the slots to which a redirect leads the names
abbrev pub slots_led : ℕ → Redirect → List (List ℕ) → List ℕ
slots_led slots given names = filter_map (λ name. slot_of slots name given) names

-- the slots differ, and none of them is taken
abbrev pub are_free : List ℕ → List ℕ → Bool
are_free taken slots = differ slots && list_all (λ slot. not (is_among taken slot)) slots

-- the rule: the seed sends the names to slots below the length that differ and aren't taken
pub record Fits (names : List (List ℕ)) (slots seed : ℕ) (taken : List ℕ) : Type 0 where
  pub below : All (λ name. hash seed name % slots < slots) names
  pub differ : AllPairs (λ one other. hash seed one % slots ≢ hash seed other % slots) names
  pub free : All (λ name. ¬ Contains taken (hash seed name % slots)) names

-- `Fits` as a test: the seed sends the names to slots below the length that differ and aren't taken
abbrev pub fits : ℕ → List ℕ → List (List ℕ) → ℕ → Bool
fits slots taken names seed = are_free taken (slots_led slots (redirect.Seed seed) names)

-- the seeds that are tried: 1 to 1000, the least first
unfoldable pub seeds : List ℕ
seeds = range_with_len 1 1000

-- the least seed that fits, if there is one
abbrev pub least_seed : ℕ → List ℕ → List (List ℕ) → Option ℕ
least_seed slots taken names = find (fits slots taken names) seeds

-- the least slot that isn't taken
abbrev pub least_free : ℕ → List ℕ → Option ℕ
least_free slots taken = find (λ slot. not (is_among taken slot)) (range_with_len 0 slots)

-- what a bucket of these names gets: the least free slot where it has one name, else the least seed
-- that fits, or nothing
abbrev pub redirect_for : ℕ → List ℕ → List (List ℕ) → Option Redirect
redirect_for slots taken names =
    if length names == 1 then option_map (λ slot. redirect.Slot slot) (least_free slots taken)
    else option_map (λ seed. redirect.Seed seed) (least_seed slots taken names)

-- The table

-- what the buckets get that are taken in turn, in front of what others got before, whose slots are
-- taken; none where one of them gets nothing
abbrev pub given_in_turn :
    List (List ℕ) → ℕ → List ℕ → List (ℕ × Redirect) → List ℕ → Option (List (ℕ × Redirect))
given_in_turn names slots taken given [] = Some given
given_in_turn names slots taken given (bucket ∷ buckets) =
    option_and_then
    (λ r. given_in_turn names slots
    (slots_led slots r (names_in names slots bucket) ++ taken) ((bucket, r) ∷ given) buckets)
    (redirect_for slots taken (names_in names slots bucket))

-- what a bucket got, or nothing
abbrev pub redirect_in : List (ℕ × Redirect) → ℕ → Redirect
redirect_in given bucket = unwrap_or (lookup (λ other. bucket == other) given) redirect.Nowhere

-- a redirect for each bucket, and a slot for each name
pub record GreedyTable : Type 0 where
  pub length : ℕ
  pub redirects : List Redirect
  pub slots : List ℕ

-- the table in which the buckets have what they got, and each name the slot to which it is led
abbrev pub table_of : List (List ℕ) → ℕ → List (ℕ × Redirect) → GreedyTable
table_of names slots given = record {
  length = slots;
  redirects = map (redirect_in given) (range_with_len 0 slots);
  slots = filter_map (λ name. slot_of slots name (redirect_in given (bucket_of slots name))) names;
}

-- the greedy table of the names at a length, or none
abbrev pub greedy : List (List ℕ) → ℕ → Option GreedyTable
greedy names slots =
    option_map (table_of names slots)
    (given_in_turn names slots [] [] (buckets_in_turn names slots))

-- the greedy table at the first of some lengths that has one, or none
abbrev pub greedy_among : List (List ℕ) → List ℕ → Option GreedyTable
greedy_among names [] = None
greedy_among names (slots ∷ lengths) =
    option_or (greedy names slots) (greedy_among names lengths)

-- the greedy table at the first of the 64 lengths that has one, or none
abbrev pub first_table : List (List ℕ) → Option GreedyTable
first_table names = greedy_among names (table_lengths (length names))

-- Words

-- a redirect as a number of 32 bits, in which -1 less the slot wraps
abbrev pub word_of : Redirect → ℕ
word_of redirect.Nowhere = 0
word_of (redirect.Slot slot) = 2 ^ 32 - 1 - slot
word_of (redirect.Seed seed) = seed
