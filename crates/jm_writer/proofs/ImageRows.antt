-- The rows of a written image: each slot's offset word leads to its row, or to the blank one.
use Rattle.std.proofs.Common.{◌≡◌, ◌≢◌, ℕ, zero, suc, ◌+◌, ◌-◌, ◌<◌, ◌≤◌, ◌==◌, List, [], ◌∷◌, ◌++◌, length}
use Rattle.std.proofs.Common.{map, take, drop, get_or, Some, None, refl, sym, ap, ◌∙◌, arith, length-append}
use Rattle.std.proofs.Common.{drop_at, take_at, take-append-drop, take-take, get_or-take, length-take-le}
use Rattle.std.proofs.Common.{true, false}
use Rattle.std.proofs.lemmas.Bool.{eq-eqb, lt-ltb, ne_eqb}
use Rattle.std.proofs.lemmas.List.{drop_more, nil_from_length}
use Rattle.std.proofs.lemmas.List.Concat.{flat_map-append}
use Rattle.std.specs.List.{flat_map}
use Rattle.std.specs.Prelude.{nat_lt}
use Rattle.jm_bytes.proofs.Choice.{same_first}
use Rattle.jm_names.specs.Names.{split}
use Rattle.jm_form.specs.declared.container.Header.{Header}
use Rattle.jm_form.specs.declared.rows.Row.{Row}
use Rattle.jm_form.specs.declared.slots.SlotRow.TheVariants as slot_row
use Rattle.jm_form.specs.ComputedRows.{row_front}
use Rattle.jm_form.specs.Entries.{row_of_slot, row_read, row_text}
use Rattle.jm_form.specs.Layout.{Index, Written, contents_text, index_text, location_of, locations_below}
use Rattle.jm_form.specs.Layout.{locations_text, row_in, row_place, row_with, rows_from, sized}
use Rattle.jm_form.specs.Places.{locations, offset_word}
use Rattle.jm_form.specs.Rows.{blank, usual, usual_attribute, values_of}
use Rattle.jm_form.proofs.UsualLaws.{RowFits, usual_read_back}
use Rattle.jm_writer.specs.Writable.{header_with}
use Rattle.jm_writer.proofs.ImageSections.{IndexFits, locations_are, locations_behind, locations_parts, offset_word_is}

-- One row

-- a row of one byte is blank
usual_alone : (spelled : Row) → RowFits spelled → length (usual spelled) ≡ 1 → spelled ≡ blank
usual_alone spelled fits one =
    let front : List ℕ = flat_map (λ v. usual_attribute v.0 v.1) (values_of spelled) in
    let size = length-append front (0 ∷ []) in
    let none : front ≡ [] = nil_from_length front (omega arith) in
    let alone : usual spelled ≡ 0 ∷ [] = ap (λ l. l ++ 0 ∷ []) none in
    let back = usual_read_back spelled [] fits in
    let same = sym (ap (λ l. row_front (l ++ [])) alone) ∙ back in
    sym (same_first blank spelled 1 (length (usual spelled)) same)

some_usual : (row : Row) → 0 < length (usual row)
some_usual row = omega (arith, length-append (flat_map (λ v. usual_attribute v.0 v.1) (values_of row)) (0 ∷ []))

usual_read : (row : Row) (rest : List ℕ) → RowFits row → row ≢ blank → row_read (row_front (usual row ++ rest)) ≡ slot_row.Spelled row
usual_read row rest fits some =
    let more : length (usual row) == 1 ≡ false = ne_eqb (length (usual row)) 1 (λ one. some (usual_alone row fits one)) in
    ap row_read (usual_read_back row rest fits) ∙ rw more refl

-- a byte 0 is a blank row
blank_read : (rest : List ℕ) → row_read (row_front (0 ∷ rest)) ≡ slot_row.Blank
blank_read rest =
    let one : suc (length rest) - length rest == 1 ≡ true = eq-eqb (suc (length rest) - length rest) 1 (omega arith) in
    rw one refl

-- The rows of slots

-- what the bytes at a place within the locations say
slot_read : (b : List ℕ) (h : Header) (i : ℕ) (place : ℕ) (text : List ℕ) → offset_word b h i ≡ place → place < h.locations
    → drop place (locations b h) ≡ text → row_of_slot b h i ≡ row_read (row_front text)
slot_read b h i place text word below there =
    let inside : nat_lt (offset_word b h i) h.locations ≡ true = lt-ltb (offset_word b h i) h.locations (omega arith) in
    let from : row_text b h i ≡ text = ap (λ p. drop p (locations b h)) word ∙ there in
    rw inside (ap (λ t. row_read (row_front t)) from)

module _ (index : Index) (fits : IndexFits index) (text : List ℕ) where
  abbrev b : List ℕ
  b = index_text index ++ text

  abbrev h : Header
  h = header_with index

  -- a spare slot has the blank row
  pub slot_spare : (i : ℕ) → i < index.table.length → row_in index i ≡ None → row_of_slot b h i ≡ slot_row.Blank
  slot_spare i below none =
      let place : row_place index i ≡ 0 = rw none refl in
      let rest : List ℕ = drop 1 (locations_text index) in
      slot_read b h i 0 (0 ∷ rest) (offset_word_is index fits text i below ∙ place) (omega arith) (locations_are index fits text)
      ∙ blank_read rest

  -- a slot of a row that isn't blank has this row
  pub slot_taken : (i : ℕ) (row : Row) → i < index.table.length → row_in index i ≡ Some row → RowFits row → row ≢ blank
      → row_of_slot b h i ≡ slot_row.Spelled row
  slot_taken i row below is row_fits some =
      let place : row_place index i ≡ length (locations_below index i) = rw is refl in
      let behind : List ℕ = locations_behind index i in
      let parts : locations_text index ≡ locations_below index i ++ (usual row ++ behind) = locations_parts index i below
      ∙ ap (λ o. locations_below index i ++ (location_of o ++ behind)) is in
      let all = ap length parts in
      let both = length-append (locations_below index i) (usual row ++ behind) in
      let later = length-append (usual row) behind in
      let byte = some_usual row in
      let from : drop (length (locations_below index i)) (locations b h) ≡ usual row ++ behind =
      ap (drop (length (locations_below index i))) (locations_are index fits text ∙ parts) ∙ drop_at (locations_below index i)
      (usual row ++ behind) (length (locations_below index i)) refl in
      slot_read b h i (length (locations_below index i)) (usual row ++ behind) (offset_word_is index fits text i below ∙ place)
      (omega arith) from ∙ usual_read row behind row_fits some

-- The rows of entries

-- where the content of an entry stands
abbrev pub content_place : List Written → ℕ → ℕ
content_place es k = length (contents_text (take k es))

-- the row of entry k
pub row_there : (texts : List (List ℕ)) (offset : ℕ) (es : List Written) (k : ℕ) (d : Row) (e : Written) → k < length es
    → get_or (rows_from texts offset (map sized es)) k d ≡ row_with texts (split (get_or es k e).0) (offset + content_place es k)
    (length (get_or es k e).1)
row_there texts offset [] k d e below = absurd (omega arith)
row_there texts offset (first ∷ es) zero d e below =
    let here : offset ≡ offset + 0 = omega arith in
    ap (λ place. row_with texts (split first.0) place (length first.1)) here
row_there texts offset (first ∷ es) (suc k) d e below =
    let size = length-append first.1 (contents_text (take k es)) in
    let place : (offset + length first.1) + content_place es k ≡ offset + content_place (first ∷ es) (suc k) = omega arith in
    row_there texts (offset + length first.1) es k d e (omega arith)
    ∙ ap (λ n. row_with texts (split (get_or es k e).0) n (length (get_or es k e).1)) place

-- the contents in front of entry k, its own and those behind it
pub content_parts : (es : List Written) (k : ℕ) (e : Written) → k < length es → contents_text es ≡ contents_text (take k es)
    ++ ((get_or es k e).1 ++ contents_text (drop (k + 1) es))
content_parts es k e below =
    ap contents_text (sym (take-append-drop k es)) ∙ flat_map-append (λ w. w.1) (take k es) (drop k es)
    ∙ ap (λ l. contents_text (take k es) ++ contents_text l) (drop_more es k e below)

-- it lies within them
pub content_within : (es : List Written) (k : ℕ) (e : Written) → k < length es → content_place es k + length (get_or es k e).1
    ≤ length (contents_text es)
content_within es k e below =
    let all = ap length (content_parts es k e below) in
    let both = length-append (contents_text (take k es)) ((get_or es k e).1 ++ contents_text (drop (k + 1) es)) in
    let later = length-append (get_or es k e).1 (contents_text (drop (k + 1) es)) in
    omega arith

pub content_there : (es : List Written) (k : ℕ) (e : Written) → k < length es
    → take (length (get_or es k e).1) (drop (content_place es k) (contents_text es)) ≡ (get_or es k e).1
content_there es k e below =
    ap (λ l. take (length (get_or es k e).1) (drop (content_place es k) l)) (content_parts es k e below)
    ∙ ap (take (length (get_or es k e).1)) (drop_at (contents_text (take k es)) ((get_or es k e).1
    ++ contents_text (drop (k + 1) es)) (content_place es k) refl)
    ∙ take_at (get_or es k e).1 (contents_text (drop (k + 1) es)) (length (get_or es k e).1) refl

-- and in front of the content of each later entry
pub contents_apart : (es : List Written) (j k : ℕ) (e : Written) → j < k → k < length es → content_place es j
    + length (get_or es j e).1 ≤ content_place es k
contents_apart es j k e before below =
    let cut : take j (take k es) ≡ take j es = take-take j k es (omega arith) in
    let same : get_or (take k es) j e ≡ get_or es j e = get_or-take k es j e before in
    let size = length-take-le k es (omega arith) in
    let within = content_within (take k es) j e (omega arith) in
    let place : content_place (take k es) j ≡ content_place es j = ap (λ l. length (contents_text l)) cut in
    let long : length (get_or (take k es) j e).1 ≡ length (get_or es j e).1 = ap (λ (w : Written). length w.1) same in
    omega arith
