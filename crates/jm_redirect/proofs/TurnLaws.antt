-- The turns of names in order are those of the buckets in turn.
use Rattle.std.proofs.Common.{◌≡◌, ◌≢◌, ℕ, ◌+◌, ◌-◌, ◌%◌, ◌==◌, ◌<◌, ◌≤◌, ◌⊎◌, inl, inr, Bool, false, List}
use Rattle.std.proofs.Common.{[], length, map, take, drop, get_or, AllPairs, Contains, IsPermutation}
use Rattle.std.proofs.Common.{IsSorted, refl, sym, ap, ◌∙◌, arith, Bor}
use Rattle.std.proofs.lemmas.Bool.{eqb-true, eq-eqb, cases_eq}
use Rattle.std.proofs.lemmas.Bool.Decides.{nat_tests}
use Rattle.std.proofs.lemmas.Cmp.{on_total, then_total, nat_cmp_total}
use Rattle.std.proofs.lemmas.List.{length-map, get_or-map, take-map, drop-map}
use Rattle.std.proofs.lemmas.List.FromFn.{fill_by_all, length-range_with_len, get_or-range_with_len}
use Rattle.std.proofs.lemmas.List.Kept.{AllPairs-filter}
use Rattle.std.proofs.lemmas.List.Sorted.{ranks_by, sorted_far, Contains-permutation, IsPermutation-sym}
use Rattle.std.proofs.lemmas.Map.Keys.{IsDistinct-IsPermutation, IsDistinct-from_apart, apart_from_distinct}
use Rattle.std.specs.Cmp.{IsTotalOrder}
use Rattle.std.specs.List.{filter, flat_map, range_with_len}
use Rattle.std.specs.Ordering.{is_lt}
use Rattle.jm_names.specs.Hash.{hash, default_seed}
use Rattle.jm_bytes.proofs.Members.{contains_filter, from_filter, from_map, from_range}
use Rattle.jm_bytes.proofs.Pairs.{pairs_map, range_rises}
use Rattle.jm_form.specs.Greedy.{bucket_of, names_in, buckets_in_turn}
use Rattle.jm_form.proofs.BucketLaws.{size_in, TakenBefore, size_le, contains_turn, taken_in_turn}
use Rattle.jm_redirect.specs.declared.turns.Turn.{Turn}
use Rattle.jm_redirect.specs.Marks.{names_at}
use Rattle.jm_redirect.specs.Reached.{turns_in}
use Rattle.jm_redirect.specs.Turns.{size_of, turn_at, turns_of, turn_cmp}
use Rattle.jm_bytes.proofs.Pairs.{pairs_among}
use Rattle.jm_bytes.proofs.SameOrder.{same_order, contains_flat_map, from_flat_map, pairs_flat_map}
use Rattle.jm_bytes.proofs.SameOrder.{filter_mapped, filter_same, mapped_twice}

abbrev hashes_of : List (List ℕ) → List ℕ
hashes_of names = map (hash default_seed) names

-- The names of a bucket's turns

-- a hash falls into a bucket exactly where its name does
hash_bucket : (names : List (List ℕ)) (slots bucket place : ℕ) → place < length names
    → (get_or (hashes_of names) place 0 % slots == bucket) ≡ (bucket_of slots (get_or names place []) == bucket)
hash_bucket names slots bucket place below = ap (λ h. h % slots == bucket) (get_or-map (hash default_seed) names place [] 0 below)

itself : (names : List (List ℕ)) → names ≡ map (λ place. get_or names place []) (range_with_len 0 (length names))
itself names = fill_by_all (λ place. get_or names place []) names (length names) [] refl (λ k below. refl)

turns_in_places : (names : List (List ℕ)) (slots bucket : ℕ) → turns_in names slots bucket ≡ map (turn_at (hashes_of names) slots)
    (filter (λ place. get_or (hashes_of names) place 0 % slots == bucket) (range_with_len 0 (length (hashes_of names))))
turns_in_places names slots bucket = filter_mapped (λ turn. turn.bucket == bucket) (turn_at (hashes_of names) slots)
    (range_with_len 0 (length (hashes_of names)))

pub names_of_turns : (names : List (List ℕ)) (slots bucket : ℕ) → names_at names (turns_in names slots bucket) ≡ names_in names slots bucket
names_of_turns names slots bucket =
    let hashes = hashes_of names in
    let by_hash : ℕ → Bool = λ place. get_or hashes place 0 % slots == bucket in
    let by_name : ℕ → Bool = λ place. bucket_of slots (get_or names place []) == bucket in
    let places = range_with_len 0 (length names) in
    let size : length hashes ≡ length names = simp length-map refl in
    let same = filter_same by_hash by_name places (λ k d below. let count = length-range_with_len 0 (length names) in
    rw (get_or-range_with_len 0 (length names) k d (omega arith)) (hash_bucket names slots bucket (0 + k) (omega arith))) in
    ap (names_at names) (turns_in_places names slots bucket) ∙ mapped_twice (λ (turn : Turn). get_or names turn.place [])
    (turn_at hashes slots) (filter by_hash (range_with_len 0 (length hashes)))
    ∙ ap (λ n. map (λ place. get_or names place []) (filter by_hash (range_with_len 0 n))) size
    ∙ ap (map (λ place. get_or names place [])) same ∙ sym (filter_mapped (λ name. bucket_of slots name == bucket)
    (λ place. get_or names place []) places) ∙ ap (filter (λ name. bucket_of slots name == bucket)) (sym (itself names))

-- as many hashes fall into a bucket as names
pub same_size : (names : List (List ℕ)) (slots bucket : ℕ) → size_of (hashes_of names) slots bucket ≡ size_in names slots bucket
same_size names slots bucket =
    let named : length (map (hash default_seed) (names_in names slots bucket)) ≡ length (names_in names slots bucket) =
    simp length-map refl in
    ap length (filter_mapped (λ h. h % slots == bucket) (hash default_seed) names) ∙ named

pub length-turns_in : (names : List (List ℕ)) (slots bucket : ℕ) → length (turns_in names slots bucket) ≡ size_in names slots bucket
length-turns_in names slots bucket =
    let named : length (names_at names (turns_in names slots bucket)) ≡ length (turns_in names slots bucket) = simp length-map refl in
    sym named ∙ ap length (names_of_turns names slots bucket)

-- The turns of a bucket

-- what the turn of a bucket says
pub record IsTurnIn (names : List (List ℕ)) (slots bucket : ℕ) (turn : Turn) : Type 0 where
  pub bucket_is : turn.bucket ≡ bucket
  pub others_is : turn.others ≡ length names - size_in names slots bucket
  pub within : turn.place < length names

pub from_turns_in : (names : List (List ℕ)) (slots bucket : ℕ) (turn : Turn) → Contains (turns_in names slots bucket) turn
    → IsTurnIn names slots bucket turn
from_turns_in names slots bucket turn there =
    let hashes = hashes_of names in
    let both = from_filter (λ (t : Turn). t.bucket == bucket) (turns_of hashes slots) turn there in
    let at = from_map (turn_at hashes slots) (range_with_len 0 (length hashes)) turn both.0 in
    let range = from_range 0 (length hashes) at.0 at.1 in
    let size : length hashes ≡ length names = simp length-map refl in
    let is = eqb-true turn.bucket bucket both.1 in
    let place = ap (λ (t : Turn). t.place) at.2 in
    let own = ap (λ (t : Turn). t.bucket) at.2 in
    record {
      bucket_is = is;
      others_is = sym (ap (λ (t : Turn). t.others) at.2) ∙ ap (λ b. length hashes - size_of hashes slots b) (own ∙ is)
          ∙ ap (λ n. n - size_of hashes slots bucket) size ∙ ap (λ s. length names - s) (same_size names slots bucket);
      within = omega (arith, range.1, place, size);
    }

-- The order of turns

abbrev Before : Turn → Turn → Type 0
Before a b = (a.others < b.others) ⊎ ((a.others ≡ b.others) × ((a.bucket < b.bucket) ⊎ ((a.bucket ≡ b.bucket) × (a.place < b.place))))

strict : (a b : Turn) → Before a b → Before b a → ⊥
strict a b (inl x) (inl y) = omega arith
strict a b (inl x) (inr (y, z)) = omega arith
strict a b (inr (x, z)) (inl y) = omega arith
strict a b (inr (x, inl p)) (inr (y, inl q)) = omega arith
strict a b (inr (x, inl p)) (inr (y, inr (q, r))) = omega arith
strict a b (inr (x, inr (p, r))) (inr (y, inl q)) = omega arith
strict a b (inr (x, inr (p, r))) (inr (y, inr (q, s))) = omega arith

not_after_others : (a b : Turn) → is_lt (turn_cmp b a) ≡ false → a.others ≤ b.others
not_after_others a b not_below = grind (arith, nat_tests)

not_after_bucket : (a b : Turn) → is_lt (turn_cmp b a) ≡ false → a.others ≡ b.others → a.bucket ≤ b.bucket
not_after_bucket a b not_below others = grind (arith, nat_tests)

not_after_place : (a b : Turn) → is_lt (turn_cmp b a) ≡ false → a.others ≡ b.others → a.bucket ≡ b.bucket → a.place ≤ b.place
not_after_place a b not_below others bucket = grind (arith, nat_tests)

before_from : (a b : Turn) → is_lt (turn_cmp b a) ≡ false → a.place ≢ b.place → Before a b
before_from a b not_below apart = elim (cases_eq a.others b.others) [
  | inl others ↦ inr (
    others,
    elim (cases_eq a.bucket b.bucket) [
      | inl bucket ↦ let place = not_after_place a b not_below others bucket in inr (bucket, omega arith)
      | inr other ↦ let bucket = not_after_bucket a b not_below others in inl (omega arith)
    ],
  )
  | inr other ↦ let others = not_after_others a b not_below in inl (omega arith)
]

turn_total : IsTotalOrder turn_cmp
turn_total =
    then_total (on_total (λ (t : Turn). t.others) nat_cmp_total) (then_total (on_total (λ (t : Turn). t.bucket) nat_cmp_total)
    (on_total (λ (t : Turn). t.place) nat_cmp_total))

abbrev same_place : Turn → Turn → Bool
same_place a b = a.place == b.place

flips : (a b : ℕ) → a == b ≡ b == a
flips a b = grind (arith, nat_tests)

below_apart : (a b : ℕ) → a < b → a == b ≡ false
below_apart a b below = grind (arith, nat_tests)

apart_differ : (a b : ℕ) → a == b ≡ false → a ≢ b
apart_differ a b apart same = grind (arith, nat_tests)

places_rise : (hashes : List ℕ) (slots : ℕ) → AllPairs (λ (a b : Turn). a.place < b.place) (turns_of hashes slots)
places_rise hashes slots = pairs_map (λ (a b : Turn). a.place < b.place) (turn_at hashes slots) (range_with_len 0 (length hashes))
    (range_rises 0 (length hashes))

-- turns that were sorted
sorted_before : (hashes : List ℕ) (slots : ℕ) (ts : List Turn) → IsPermutation (turns_of hashes slots) ts → IsSorted turn_cmp ts
    → AllPairs Before ts
sorted_before hashes slots ts moved sorted i j d before inside =
    let distinct = IsDistinct-from_apart same_place (turns_of hashes slots) (λ k l e front below. below_apart
    (get_or (turns_of hashes slots) k e).place (get_or (turns_of hashes slots) l e).place (places_rise hashes slots k l e
    front below)) in
    let still = IsDistinct-IsPermutation same_place (λ a b. flips a.place b.place) (turns_of hashes slots) ts moved distinct in
    let far = sorted_far (λ x y. is_lt (turn_cmp x y)) (ranks_by turn_total (λ (t : Turn). t)) ts sorted i j d (omega arith) inside in
    before_from (get_or ts i d) (get_or ts j d) far (apart_differ (get_or ts i d).place (get_or ts j d).place
    (apart_from_distinct same_place ts i j d still before inside))

-- the turns of one bucket, and those of two
one_bucket : (names : List (List ℕ)) (slots bucket : ℕ) → AllPairs Before (turns_in names slots bucket)
one_bucket names slots bucket =
    let rising = AllPairs-filter (λ (a b : Turn). a.place < b.place) (λ (t : Turn). t.bucket == bucket) (turns_of (hashes_of names)
    slots) (places_rise (hashes_of names) slots) in
    pairs_among (λ (a b : Turn). a.place < b.place) Before (turns_in names slots bucket)
    (λ a b in_a in_b below.
    let ta = from_turns_in names slots bucket a in_a in
    let tb = from_turns_in names slots bucket b in_b in
    inr (ta.others_is ∙ sym tb.others_is, inr (ta.bucket_is ∙ sym tb.bucket_is, below)))
    rising

two_buckets : (names : List (List ℕ)) (slots j k : ℕ) → TakenBefore names slots j k → (a b : Turn)
    → Contains (turns_in names slots j) a → Contains (turns_in names slots k) b → Before a b
two_buckets names slots j k (inl larger) a b in_a in_b =
    let ta = from_turns_in names slots j a in_a in
    let tb = from_turns_in names slots k b in_b in
    let whole = size_le names slots j in
    inl (omega (arith, ta.others_is, tb.others_is, larger, whole))
two_buckets names slots j k (inr (sizes, below)) a b in_a in_b =
    let ta = from_turns_in names slots j a in_a in
    let tb = from_turns_in names slots k b in_b in
    inr (ta.others_is ∙ ap (λ s. length names - s) sizes ∙ sym tb.others_is, inl (omega (arith, ta.bucket_is, tb.bucket_is)))

-- turns that were sorted are those of the buckets in turn
pub sorted_in_turn : (names : List (List ℕ)) (slots : ℕ) (ts : List Turn) → (0 < length names → 0 < slots)
    → IsPermutation (turns_of (hashes_of names) slots) ts → IsSorted turn_cmp ts → ts ≡ flat_map (turns_in names slots)
    (buckets_in_turn names slots)
sorted_in_turn names slots ts some moved sorted =
    let hashes = hashes_of names in
    let all = turns_of hashes slots in
    let buckets = buckets_in_turn names slots in
    let size : length hashes ≡ length names = simp length-map refl in
    same_order Before strict ts (flat_map (turns_in names slots) buckets) (sorted_before hashes slots ts moved sorted)
    (pairs_flat_map (TakenBefore names slots) Before (turns_in names slots) (one_bucket names slots) (two_buckets names slots)
    buckets (taken_in_turn names slots))
    (λ t there.
    let of_all = Contains-permutation ts all t (IsPermutation-sym all ts moved) there in
    let at = from_map (turn_at hashes slots) (range_with_len 0 (length hashes)) t of_all in
    let range = from_range 0 (length hashes) at.0 at.1 in
    let positive : 0 < slots = some (omega (arith, range.1, size)) in
    let own : t.bucket ≡ get_or hashes at.0 0 % slots = ap (λ (x : Turn). x.bucket) (sym at.2) in
    let below : t.bucket < slots = omega (arith, own, positive) in
    let here = contains_filter (λ (x : Turn). x.bucket == t.bucket) all t of_all (eq-eqb t.bucket t.bucket refl) in
    let many : 0 < size_in names slots t.bucket = omega (arith, here.1, length-turns_in names slots t.bucket) in
    contains_flat_map (turns_in names slots) buckets t.bucket t (contains_turn names slots t.bucket below many) here)
    (λ t there.
    let from = from_flat_map (turns_in names slots) buckets t there in
    Contains-permutation all ts t moved (from_filter (λ (x : Turn). x.bucket == from.0) all t from.2).0)

-- Names beside their turns

pub same_long : (names : List (List ℕ)) (named : List (Bor (List ℕ))) (turns : List Turn) → map (λ name. name.now) named
    ≡ names_at names turns → length named ≡ length turns
same_long names named turns is =
    sym (length-map named (λ (name : Bor (List ℕ)). name.now)) ∙ ap length is
    ∙ length-map turns (λ (turn : Turn). get_or names turn.place [])

pub front_named : (names : List (List ℕ)) (named : List (Bor (List ℕ))) (turns : List Turn) (n : ℕ) {front : List (Bor (List ℕ))}
    → map (λ name. name.now) named ≡ names_at names turns → front ≡ take n named → map (λ name. name.now) front
    ≡ names_at names (take n turns)
front_named names named turns n is cut =
    ap (map (λ (name : Bor (List ℕ)). name.now)) cut ∙ sym (take-map (λ (name : Bor (List ℕ)). name.now) n named) ∙ ap (take n) is
    ∙ take-map (λ (turn : Turn). get_or names turn.place []) n turns

pub back_named : (names : List (List ℕ)) (named : List (Bor (List ℕ))) (turns : List Turn) (n : ℕ) {back : List (Bor (List ℕ))}
    → map (λ name. name.now) named ≡ names_at names turns → back ≡ drop n named → map (λ name. name.now) back
    ≡ names_at names (drop n turns)
back_named names named turns n is cut =
    ap (map (λ (name : Bor (List ℕ)). name.now)) cut ∙ sym (drop-map (λ (name : Bor (List ℕ)). name.now) n named) ∙ ap (drop n) is
    ∙ drop-map (λ (turn : Turn). get_or names turn.place []) n turns
