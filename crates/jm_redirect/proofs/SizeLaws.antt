-- How many hashes fall into each bucket, one hash after another, and the turns that come of it.
use Rattle.std.proofs.Common.{◌≡◌, ℕ, ◌+◌, ◌-◌, ◌%◌, ◌==◌, ◌<◌, ◌≤◌, inl, inr, Bool, true, false, cond, List}
use Rattle.std.proofs.Common.{[], ◌∷◌, ◌++◌, length, map, set, take, get_or, replicate, refl, sym, ap, ◌∙◌}
use Rattle.std.proofs.Common.{arith}
use Rattle.std.proofs.lemmas.Bool.{cases_eq, eq-eqb, ne_eqb}
use Rattle.std.proofs.lemmas.List.{length-replicate, get_or-replicate, length-set, length-append}
use Rattle.std.proofs.lemmas.List.{length-take-le, get_or-set_same, get_or-set_other}
use Rattle.std.proofs.lemmas.List.Elements.{filter_more}
use Rattle.std.proofs.lemmas.List.FromFn.{fill_by_all, length-map-range_with_len, get_or-map-range_with_len, map-range_with_len_more}
use Rattle.std.specs.List.{filter, range_with_len}
use Rattle.jm_bytes.proofs.Members.{length_filter}
use Rattle.jm_redirect.specs.declared.turns.Turn.{Turn}
use Rattle.jm_redirect.specs.Turns.{size_of, turn_at}

pub size_of_le : (hashes : List ℕ) (slots bucket : ℕ) → size_of hashes slots bucket ≤ length hashes
size_of_le hashes slots bucket = length_filter (λ h. h % slots == bucket) hashes

-- one hash more
size_more : (hashes : List ℕ) (slots i bucket : ℕ) → i < length hashes → size_of (take (i + 1) hashes) slots bucket
    ≡ size_of (take i hashes) slots bucket + cond (get_or hashes i 0 % slots == bucket) 1 0
size_more hashes slots i bucket inside =
    ap length (filter_more (λ h. h % slots == bucket) hashes i 0 inside)
    ∙ length-append (filter (λ h. h % slots == bucket) (take i hashes)) _ ∙ ap (λ n. size_of (take i hashes) slots bucket + n)
    (one (get_or hashes i 0 % slots == bucket))
  where
    one : (b : Bool) → length (cond b (get_or hashes i 0 ∷ []) []) ≡ cond b 1 0
    one true = refl
    one false = refl

abbrev pub sizes_after : List ℕ → ℕ → ℕ → List ℕ
sizes_after hashes slots i = map (size_of (take i hashes) slots) (range_with_len 0 slots)

pub length-sizes : (hashes : List ℕ) (slots i : ℕ) → length (sizes_after hashes slots i) ≡ slots
length-sizes hashes slots i = length-map-range_with_len (size_of (take i hashes) slots) 0 slots

size_after : (hashes : List ℕ) (slots i bucket : ℕ) → bucket < slots → get_or (sizes_after hashes slots i) bucket 0
    ≡ size_of (take i hashes) slots bucket
size_after hashes slots i bucket below = get_or-map-range_with_len (size_of (take i hashes) slots) 0 slots bucket bucket 0 below
    (omega arith)

pub sizes_fit : (hashes sizes : List ℕ) (slots i bucket : ℕ) → sizes ≡ sizes_after hashes slots i → i < length hashes
    → bucket < slots → get_or sizes bucket 0 ≤ i
sizes_fit hashes sizes slots i bucket so_far inside below =
    let size = size_of_le (take i hashes) slots bucket in
    let front = length-take-le i hashes (omega arith) in
    let is = ap (λ l. get_or l bucket 0) so_far ∙ size_after hashes slots i bucket below in
    omega (arith, size, front, is)

pub sizes_more : (hashes sizes : List ℕ) (slots i bucket : ℕ) → sizes ≡ sizes_after hashes slots i → i < length hashes
    → bucket < slots → get_or hashes i 0 % slots ≡ bucket → set sizes bucket (get_or sizes bucket 0 + 1) ≡ sizes_after hashes slots (i + 1)
sizes_more hashes sizes slots i bucket so_far inside below own =
    let now = set sizes bucket (get_or sizes bucket 0 + 1) in
    let long = ap length so_far ∙ length-sizes hashes slots i in
    fill_by_all (size_of (take (i + 1) hashes) slots) now slots 0 (length-set sizes bucket _ ∙ long)
    (λ k low. elim (cases_eq bucket k) [
      | inl same ↦
          let here = get_or-set_same sizes bucket (get_or sizes bucket 0 + 1) 0 (omega arith) in
          let was = ap (λ l. get_or l bucket 0) so_far ∙ size_after hashes slots i bucket below in
          let counted : get_or hashes i 0 % slots == bucket ≡ true = eq-eqb (get_or hashes i 0 % slots) bucket own in
          ap (λ p. get_or now p 0) (sym same) ∙ here ∙ ap (λ n. n + 1) was ∙ sym (size_more hashes slots i bucket inside
          ∙ ap (λ b. size_of (take i hashes) slots bucket + cond b 1 0) counted) ∙ ap (size_of (take (i + 1) hashes) slots) same
      | inr other ↦
          let there = get_or-set_other sizes bucket k (get_or sizes bucket 0 + 1) 0 (λ e. other (sym e)) in
          let was = ap (λ l. get_or l k 0) so_far ∙ size_after hashes slots i k low in
          let not_counted : get_or hashes i 0 % slots == k ≡ false = ne_eqb (get_or hashes i 0 % slots) k (λ e. other (sym own ∙ e)) in
          let none : size_of (take i hashes) slots k + 0 ≡ size_of (take i hashes) slots k = omega arith in
          there ∙ was ∙ sym (size_more hashes slots i k inside ∙ ap (λ b. size_of (take i hashes) slots k + cond b 1 0) not_counted ∙ none)
    ])

-- the turn that comes of a hash and the sizes
pub size_at : (hashes sizes : List ℕ) (slots bucket : ℕ) → sizes ≡ map (size_of hashes slots) (range_with_len 0 slots)
    → bucket < slots → get_or sizes bucket 0 ≡ size_of hashes slots bucket
size_at hashes sizes slots bucket all below = ap (λ l. get_or l bucket 0) all ∙ get_or-map-range_with_len (size_of hashes slots) 0
    slots bucket bucket 0 below (omega arith)

-- no hash yet
pub sizes_none : (hashes : List ℕ) (slots : ℕ) → replicate slots 0 ≡ sizes_after hashes slots 0
sizes_none hashes slots =
    fill_by_all (size_of (take 0 hashes) slots) (replicate slots 0) slots 0 (length-replicate slots 0) (λ k below. get_or-replicate
    slots k 0 0 below)

-- one turn more
pub turns_more : (hashes sizes : List ℕ) (slots i : ℕ) (turns : List Turn) → sizes
    ≡ map (size_of hashes slots) (range_with_len 0 slots) → get_or hashes i 0 % slots < slots → turns
    ≡ map (turn_at hashes slots) (range_with_len 0 i)
    → turns ++ record {
      others = length hashes - get_or sizes (get_or hashes i 0 % slots) 0;
      bucket = get_or hashes i 0 % slots;
      place = i;
    } ∷ [] ≡ map (turn_at hashes slots) (range_with_len 0 (i + 1))
turns_more hashes sizes slots i turns all below so_far =
    let bucket = get_or hashes i 0 % slots in
    let made : ℕ → Turn = λ size. record { others = length hashes - size; bucket = bucket; place = i } in
    ap (λ l. l ++ made (get_or sizes bucket 0) ∷ []) so_far ∙ ap (λ s. map (turn_at hashes slots) (range_with_len 0 i) ++ made s
    ∷ []) (size_at hashes sizes slots bucket all below) ∙ sym (map-range_with_len_more (turn_at hashes slots) 0 i i (omega arith))
