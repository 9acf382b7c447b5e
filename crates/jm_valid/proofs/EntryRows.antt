-- The row of the entry of a slot, and the entries with that slot.
use Rattle.std.proofs.Common.{◌≡◌, ℕ, ◌+◌, ◌-◌, ◌<◌, ◌≤◌, inl, inr, Bool, true, false, cond, length}
use Rattle.std.proofs.Common.{option_map, append-nil, arith, List, [], ◌∷◌, ◌++◌, Option, Some, None, All}
use Rattle.std.proofs.Common.{AllPairs, refl, sym, ap, ◌∙◌}
use Rattle.std.proofs.lemmas.Bool.{ltb-true}
use Rattle.std.proofs.lemmas.List.{map-append}
use Rattle.std.proofs.lemmas.List.Elements.{All-weaker, filter-append, filter_map-append, filter_passes}
use Rattle.std.proofs.lemmas.List.Kept.{AllPairs-filter}
use Rattle.std.specs.Prelude.{nat_lt}
use Rattle.std.specs.List.{filter, filter_map, cons_option, range_with_len}
use Rattle.jm_bytes.proofs.Choice.{chosen, same_some}
use Rattle.jm_bytes.proofs.Members.{length_filter, length_filter_map}
use Rattle.jm_bytes.proofs.Pairs.{pairs_map, range_more}
use Rattle.jm_form.specs.declared.ranges.Range.{Range}
use Rattle.jm_form.specs.declared.rows.Compression.{Compression}
use Rattle.jm_form.specs.declared.rows.Row.{Row}
use Rattle.jm_form.specs.Entries.{Entry, entries, entry_at, entry_of, is_reached, row_at}
use Rattle.jm_form.specs.Overlap.{range_by, ranges_by}
use Rattle.jm_form.specs.declared.container.Header.{Header}
use Rattle.jm_form.proofs.EntryLaws.{slots_rise}
use Rattle.jm_valid.specs.declared.sections.Sections.{Sections}
use Rattle.jm_valid.specs.Parts.{entries_at}
use Rattle.jm_valid.specs.Ranges.{ranges_with_bytes}
use Rattle.jm_valid.specs.Sections.{entry_row_in, row_if_reached}

-- a slot that holds an entry spells its row, and is reached by its name
pub row_reached : (s : Sections) (i : ℕ) (row : Row) → entry_row_in s i ≡ Some row → (row_at s.bytes.now s.header i ≡ Some row)
    × (is_reached s.bytes.now s.header (entry_of s.bytes.now s.header i row) ≡ true)
row_reached s i row e = go (row_at s.bytes.now s.header i) refl e
  where
    go : (o : Option Row) → row_at s.bytes.now s.header i ≡ o → row_if_reached s i o ≡ Some row → (row_at s.bytes.now s.header i
        ≡ Some row) × (is_reached s.bytes.now s.header (entry_of s.bytes.now s.header i row) ≡ true)
    go None there e = cc
    go (Some r) there e =
        elim (chosen (is_reached s.bytes.now s.header (entry_of s.bytes.now s.header i r)) (Some r) None (Some row) e) [
          | inl both ↦ let same = same_some r row both.1 in (
            there ∙ ap (λ (q : Row). Some q) same,
            sym (ap (λ (q : Row). is_reached s.bytes.now s.header (entry_of s.bytes.now s.header i q)) same) ∙ both.0,
          )
          | inr both ↦ let no = both.1 in cc
        ]

-- the entries of slots and more slots
pub entries_append : (s : Sections) (is js : List ℕ) → entries_at s (is ++ js) ≡ entries_at s is ++ entries_at s js
entries_append s is js =
    let b = s.bytes.now in
    let h = s.header in
    ap (filter (is_reached b h)) (filter_map-append (entry_at b h) is js) ∙ filter-append (is_reached b h)
    (filter_map (entry_at b h) is) (filter_map (entry_at b h) js)

-- the slot that comes next, if any does before the end
pub slots_next : (first slot : ℕ) → first ≤ slot → range_with_len first (slot + 1 - first) ≡ range_with_len first (slot - first)
    ++ slot ∷ []
slots_next first slot from =
    let count : slot + 1 - first ≡ (slot - first) + 1 = omega arith in
    let last : first + (slot - first) ≡ slot = omega arith in
    ap (range_with_len first) count ∙ range_more first (slot - first) ∙ ap (λ (k : ℕ). range_with_len first (slot - first) ++ k ∷ []) last

-- the entry of one slot, from its row
entry_spelled : (s : Sections) (i : ℕ) (row : Row) → row_at s.bytes.now s.header i ≡ Some row
    → is_reached s.bytes.now s.header (entry_of s.bytes.now s.header i row) ≡ true → entries_at s (i ∷ [])
    ≡ entry_of s.bytes.now s.header i row ∷ []
entry_spelled s i row there reached =
    let e = entry_of s.bytes.now s.header i row in
    ap (λ (o : Option Row). filter (is_reached s.bytes.now s.header) (cons_option (option_map (entry_of s.bytes.now s.header i) o)
    [])) there
    ∙ ap (λ (t : Bool). cond t (e ∷ []) []) reached

entry_blank : (s : Sections) (i : ℕ) → row_at s.bytes.now s.header i ≡ None → entries_at s (i ∷ []) ≡ []
entry_blank s i there =
    ap (λ (o : Option Row). filter (is_reached s.bytes.now s.header) (cons_option (option_map (entry_of s.bytes.now s.header i) o)
    [])) there

entry_unreached : (s : Sections) (i : ℕ) (row : Row) → row_at s.bytes.now s.header i ≡ Some row
    → is_reached s.bytes.now s.header (entry_of s.bytes.now s.header i row) ≡ false → entries_at s (i ∷ []) ≡ []
entry_unreached s i row there spare =
    let e = entry_of s.bytes.now s.header i row in
    ap (λ (o : Option Row). filter (is_reached s.bytes.now s.header) (cons_option (option_map (entry_of s.bytes.now s.header i) o)
    [])) there
    ∙ ap (λ (t : Bool). cond t (e ∷ []) []) spare

-- the row of its entry adds that entry
pub entry_more : (s : Sections) (slots : List ℕ) (i : ℕ) (row : Row) → entry_row_in s i ≡ Some row → entries_at s (slots ++ i ∷ [])
    ≡ entries_at s slots ++ entry_of s.bytes.now s.header i row ∷ []
entry_more s slots i row e =
    let both = row_reached s i row e in
    entries_append s slots (i ∷ []) ∙ ap (λ es. entries_at s slots ++ es) (entry_spelled s i row both.0 both.1)

spare_alone : (s : Sections) (i : ℕ) → entry_row_in s i ≡ None → entries_at s (i ∷ []) ≡ []
spare_alone s i e = go (row_at s.bytes.now s.header i) refl e
  where
    go : (o : Option Row) → row_at s.bytes.now s.header i ≡ o → row_if_reached s i o ≡ None → entries_at s (i ∷ []) ≡ []
    go None there e = entry_blank s i there
    go (Some r) there e =
        elim (chosen (is_reached s.bytes.now s.header (entry_of s.bytes.now s.header i r)) (Some r) None None e) [
          | inl both ↦ let no = both.1 in cc
          | inr both ↦ entry_unreached s i r there both.0
        ]

-- a spare slot adds none
pub entry_same : (s : Sections) (slots : List ℕ) (i : ℕ) → entry_row_in s i ≡ None → entries_at s (slots ++ i ∷ []) ≡ entries_at s slots
entry_same s slots i e =
    entries_append s slots (i ∷ []) ∙ ap (λ es. entries_at s slots ++ es) (spare_alone s i e) ∙ append-nil (entries_at s slots)

-- no more entries than slots
pub length-entries_at : (s : Sections) (slots : List ℕ) → length (entries_at s slots) ≤ length slots
length-entries_at s slots =
    let reached = length_filter (is_reached s.bytes.now s.header) (filter_map (entry_at s.bytes.now s.header) slots) in
    let read = length_filter_map (entry_at s.bytes.now s.header) slots in
    omega arith

-- the ranges with those of one entry more
pub ranges_more : (c : Compression) (es : List Entry) (e : Entry) → ranges_with_bytes (ranges_by c (es ++ e ∷ []))
    ≡ ranges_with_bytes (ranges_by c es) ++ ranges_with_bytes (range_by c e ∷ [])
ranges_more c es e = ap ranges_with_bytes (map-append (range_by c) es (e ∷ [])) ∙ filter-append (λ (r : Range). nat_lt r.start r.end)
    (ranges_by c es) (range_by c e ∷ [])

-- the ranges of an image's contents stand by rising slot
pub ranges_rise : (c : Compression) (b : List ℕ) (h : Header) → AllPairs (λ r s. r.slot < s.slot)
    (ranges_with_bytes (ranges_by c (entries b h)))
ranges_rise c b h =
    AllPairs-filter (λ (r s : Range). r.slot < s.slot) (λ (r : Range). nat_lt r.start r.end) (ranges_by c (entries b h))
    (pairs_map (λ (r s : Range). r.slot < s.slot) (range_by c) (entries b h) (slots_rise b h))

-- and each has a byte
pub ranges_some : (rs : List Range) → All (λ r. r.start < r.end) (ranges_with_bytes rs)
ranges_some rs =
    All-weaker (λ (r : Range). nat_lt r.start r.end ≡ true) (λ (r : Range). r.start < r.end) (λ r is. ltb-true r.start r.end is)
    (ranges_with_bytes rs) (filter_passes (λ (r : Range). nat_lt r.start r.end) rs)
