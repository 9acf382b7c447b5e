-- Rows that are put into their slots, one after another.
use Rattle.std.proofs.Common.{◌∷◌, [], ◌≡◌, ◌≢◌, ℕ, ◌+◌, ◌<◌, ◌≤◌, ◌==◌, Bool, true, false, cond, List}
use Rattle.std.proofs.Common.{length, drop, get_or, set, Option, Some, None, AllPairs, refl, sym, ap, ◌∙◌}
use Rattle.std.proofs.Common.{arith, inl, inr, get_or-set_other, get_or-set_same, replicate}
use Rattle.std.proofs.lemmas.Bool.{eqb-true, eqb-false, cases_lt}
use Rattle.std.proofs.lemmas.List.{get_or_past, get_or-replicate, length-replicate, length-set}
use Rattle.std.specs.List.{zip}
use Rattle.std.specs.Map.{lookup}
use Rattle.std.specs.Option.{option_or}
use Rattle.std.proofs.lemmas.List.FromFn.{length-map-range_with_len, get_or-map-range_with_len}
use Rattle.jm_form.specs.declared.rows.Row.{Row}
use Rattle.jm_writer.specs.Parts.{rows_at, rows_in_slots}
use Rattle.jm_writer.specs.Parts as parts
use Rattle.jm_writer.specs.declared.interning.TextPlaces.{TextPlaces}
use Rattle.jm_writer.proofs.ItemLaws.{drop_at_index, drop_none, same_items}

-- the row of a slot among rows beside their slots
abbrev pub row_at : List ℕ → List Row → ℕ → Option Row
row_at slots rows slot = lookup (λ other. slot == other) (zip slots rows)

-- the rows in front of a place were put into their slots, which later rows don't have
pub record Placed (slots : List ℕ) (rows : List Row) (count place : ℕ) (found : List (Option Row)) : Type 0 where
  pub long : length found ≡ count
  pub left : (slot : ℕ) → slot < count → option_or (get_or found slot None) (row_at (drop place slots) (drop place rows) slot)
      ≡ row_at slots rows slot
  pub free : (later : ℕ) → place ≤ later → later < length slots → get_or found (get_or slots later 0) None ≡ None

pub placed_none : (slots : List ℕ) (rows : List Row) (count : ℕ) → Placed slots rows count 0 (replicate count None)
placed_none slots rows count = record {
  long = length-replicate count None;
  left = λ slot below. ap (λ o. option_or o (row_at slots rows slot)) (none slot);
  free = λ later from below. none (get_or slots later 0);
}
  where
    none : (slot : ℕ) → ◌≡◌ {A = Option Row} (get_or (replicate count None) slot None) None
    none slot = elim (cases_lt slot count) [
      | inl below ↦ get_or-replicate count slot None None below
      | inr above ↦ get_or_past (replicate count None) slot None (let long = length-replicate {A = Option Row} count None in omega arith)
    ]

-- one row more
pub placed_next : (slots : List ℕ) (rows : List Row) (count place : ℕ) (found : List (Option Row)) (d : Row) → length slots
    ≡ length rows → place < length slots → get_or slots place 0 < count → AllPairs (λ one other. one ≢ other) slots
    → Placed slots rows count place found → Placed slots rows count (place + 1) (set found (get_or slots place 0)
    (Some (get_or rows place d)))
placed_next slots rows count place found d same inside below differ placed = record {
  long = let long = placed.long in simp length-set long;
  left = λ slot within. go slot within (slot == own) refl;
  free = λ later from within.
      let apart : own ≢ get_or slots later 0 = differ place later 0 (omega arith) within in
      get_or-set_other found own (get_or slots later 0) (Some row) None (λ e. apart (sym e)) ∙ placed.free later (omega arith) within;
}
  where
    own : ℕ
    own = get_or slots place 0

    row : Row
    row = get_or rows place d

    rest : ℕ → Option Row
    rest slot = row_at (drop (place + 1) slots) (drop (place + 1) rows) slot

    first : (slot : ℕ) → row_at (drop place slots) (drop place rows) slot ≡ cond (slot == own) (Some row) (rest slot)
    first slot = rw (drop_at_index slots place 0 inside, drop_at_index rows place d (omega arith)) refl

    taken : (b : Bool) (o : Option Row) → b ≡ true → cond b (Some row) o ≡ Some row
    taken true o is = refl
    taken false o is = cc

    passed : (b : Bool) (o : Option Row) → b ≡ false → cond b (Some row) o ≡ o
    passed true o is = cc
    passed false o is = refl

    go : (slot : ℕ) → slot < count → (b : Bool) → (slot == own) ≡ b → option_or (get_or (set found own (Some row)) slot None)
        (rest slot) ≡ row_at slots rows slot
    go slot within true test =
        let is : slot ≡ own = eqb-true slot own test in
        let free : get_or found slot None ≡ None = ap (λ n. get_or found n None) is ∙ placed.free place (omega arith) inside in
        let here : row_at (drop place slots) (drop place rows) slot ≡ Some row = first slot ∙ taken (slot == own) (rest slot) test in
        let old : Some row ≡ row_at slots rows slot = sym (ap (λ o. option_or o (row_at (drop place slots) (drop place rows) slot))
        free ∙ here) ∙ placed.left slot within in
        let new : get_or (set found own (Some row)) slot None ≡ Some row = ap (λ n. get_or (set found own (Some row)) n None) is
        ∙ get_or-set_same found own (Some row) None (let long = placed.long in omega arith) in
        ap (λ o. option_or o (rest slot)) new ∙ old
    go slot within false test =
        let other : slot ≢ own = eqb-false slot own test in
        let here : row_at (drop place slots) (drop place rows) slot ≡ rest slot = first slot ∙ passed (slot == own) (rest slot) test in
        ap (λ o. option_or o (rest slot)) (get_or-set_other found own slot (Some row) None other)
        ∙ sym (ap (option_or (get_or found slot None)) here) ∙ placed.left slot within

-- all rows
pub placed_all : (slots : List ℕ) (rows : List Row) (count : ℕ) (found : List (Option Row)) → Placed slots rows count (length slots)
    found → found ≡ rows_in_slots slots rows count
placed_all slots rows count found placed =
    same_items found (rows_in_slots slots rows count) None
    (placed.long ∙ sym (length-map-range_with_len (row_at slots rows) 0 count))
    (λ slot below.
    let long = length-map-range_with_len (row_at slots rows) 0 count in
    let within : slot < count = omega arith in
    none_left (get_or found slot None) (row_at (drop (length slots) slots) (drop (length slots) rows) slot)
    (ap (λ l. row_at l (drop (length slots) rows) slot) (drop_none slots (length slots) refl))
    ∙ placed.left slot within
    ∙ sym (get_or-map-range_with_len (row_at slots rows) 0 count slot slot None within (omega arith)))
  where
    none_left : (a b : Option Row) → b ≡ None → a ≡ option_or a b
    none_left None b is = sym is
    none_left (Some row) b is = refl

-- Rows of entries, one behind another

-- there is a row for each entry
pub length_rows_at : (offset : ℕ) (places : List TextPlaces) (sizes : List ℕ) → length places ≡ length sizes
    → length (rows_at offset places sizes) ≡ length sizes
length_rows_at offset [] [] same = refl
length_rows_at offset [] (size ∷ sizes) same = absurd (omega arith)
length_rows_at offset (places ∷ others) [] same = absurd (omega arith)
length_rows_at offset (places ∷ others) (size ∷ sizes) same =
    let next = length_rows_at (offset + size) others sizes (omega arith) in omega arith

-- rows that are left begin with that of the entry at this place
pub row_there : (offset : ℕ) (places : List TextPlaces) (sizes : List ℕ) (rows : List Row) (entry : ℕ) (p : TextPlaces) (d : Row)
    → length places ≡ length sizes → length rows ≡ length sizes → entry < length sizes → rows_at offset (drop entry places)
    (drop entry sizes) ≡ drop entry rows → parts.row_at (get_or places entry p) offset (get_or sizes entry 0) ≡ get_or rows entry d
row_there offset places sizes rows entry p d beside same inside left =
    go (sym (rw (drop_at_index places entry p (omega arith), drop_at_index sizes entry 0 inside) refl) ∙ left
    ∙ drop_at_index rows entry d (omega arith))
  where
    go : parts.row_at (get_or places entry p) offset (get_or sizes entry 0) ∷ rows_at (offset + get_or sizes entry 0)
        (drop (entry + 1) places) (drop (entry + 1) sizes) ≡ get_or rows entry d ∷ drop (entry + 1) rows
        → parts.row_at (get_or places entry p) offset (get_or sizes entry 0) ≡ get_or rows entry d
    go same = cc

pub rows_behind : (offset : ℕ) (places : List TextPlaces) (sizes : List ℕ) (rows : List Row) (entry : ℕ) (p : TextPlaces) (d : Row)
    → length places ≡ length sizes → length rows ≡ length sizes → entry < length sizes → rows_at offset (drop entry places)
    (drop entry sizes) ≡ drop entry rows → rows_at (offset + get_or sizes entry 0) (drop (entry + 1) places)
    (drop (entry + 1) sizes) ≡ drop (entry + 1) rows
rows_behind offset places sizes rows entry p d beside same inside left =
    go (sym (rw (drop_at_index places entry p (omega arith), drop_at_index sizes entry 0 inside) refl) ∙ left
    ∙ drop_at_index rows entry d (omega arith))
  where
    go : parts.row_at (get_or places entry p) offset (get_or sizes entry 0) ∷ rows_at (offset + get_or sizes entry 0)
        (drop (entry + 1) places) (drop (entry + 1) sizes) ≡ get_or rows entry d ∷ drop (entry + 1) rows
        → rows_at (offset + get_or sizes entry 0) (drop (entry + 1) places) (drop (entry + 1) sizes) ≡ drop (entry + 1) rows
    go same = cc
