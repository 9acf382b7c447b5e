-- Each proper prefix of a written image has a first damage.
use Rattle.std.proofs.Common.{◌≡◌, ◌≢◌, ℕ, ◌+◌, ◌-◌, ◌<◌, ◌≤◌, ◌⊎◌, inl, inr, List, [], ◌∷◌, ◌++◌, length}
use Rattle.std.proofs.Common.{map, take, drop, get_or, None, Ok, unwrap_or, refl, sym, ap, ◌∙◌, subst, arith}
use Rattle.std.proofs.Common.{length-append, length-drop, length-take}
use Rattle.std.proofs.lemmas.List.{drop-take, drop_all, take-take}
use Rattle.std.specs.Prelude.{cond, nat_lt}
use Rattle.byteorder.specs.Numbers.{big_from-take, little_from-take}
use Rattle.jm_bytes.specs.Checks.{first_fault}
use Rattle.jm_bytes.specs.Word.{word}
use Rattle.jm_bytes.specs.declared.words.Order.{Order}
use Rattle.jm_bytes.specs.declared.words.Order.TheVariants.{Little, Big}
use Rattle.jm_form.specs.declared.container.Header.{Header}
use Rattle.jm_form.specs.declared.slots.SlotRow.{SlotRow}
use Rattle.jm_form.specs.declared.slots.SlotRow.TheVariants as slot_row
use Rattle.jm_form.specs.ComputedRows.{row_front}
use Rattle.jm_form.specs.Damages.{first_damage}
use Rattle.jm_form.specs.Entries.{row_at, row_of_slot, row_read, spelled_row}
use Rattle.jm_form.specs.Greedy.{GreedyTable}
use Rattle.jm_form.specs.Head.{fields_in, header_checks, header_of, index_length, order_of, read_order}
use Rattle.jm_form.specs.Layout.{Index, Written, contents_text, image_of, index_of, index_text, sized}
use Rattle.jm_form.specs.Places.{locations, locations_place, offset_place, offset_word}
use Rattle.jm_form.specs.Validity.{ValidAs}
use Rattle.jm_form.proofs.HeadLaws.{header_fits, header_found}
use Rattle.jm_form.proofs.SlotLaws.{sound_row}
use Rattle.jm_form.proofs.Validity.{sound_valid}
use Rattle.jm_writer.specs.Writable.{Writable, header_with}
use Rattle.jm_writer.proofs.ImageEntries.{index_is_fit, nothing, row_at_is, row_for, slot_below_length}
use Rattle.jm_writer.proofs.ImageRows.{content_parts, content_place}
use Rattle.jm_writer.proofs.ImageSections.{header_is, length-index_text}

-- The front of some bytes

drop_front : (n at : ℕ) (b : List ℕ) → at ≤ n → drop at (take n b) ≡ take (n - at) (drop at b)
drop_front n at b within =
    let whole : n ≡ at + (n - at) = omega arith in
    ap (λ k. drop at (take k b)) whole ∙ drop-take at (n - at) b

-- a word within the front is that of the bytes
word_front : (order : Order) (n at : ℕ) (b : List ℕ) → at + 4 ≤ n → word order (take n b) at ≡ word order b at
word_front Little n at b within = ap (λ l. word Little l 0) (drop_front n at b (omega arith)) ∙ little_from-take 0 4 (n - at)
    (drop at b) (omega arith)
word_front Big n at b within = ap (λ l. word Big l 0) (drop_front n at b (omega arith)) ∙ big_from-take 0 4 (n - at) (drop at b)
    (omega arith)

order_front : (n : ℕ) (b : List ℕ) → 28 ≤ n → order_of (take n b) ≡ order_of b
order_front n b long = rw (word_front Little n 0 b (omega arith), word_front Big n 0 b (omega arith)) refl

fields_front : (order : Order) (n : ℕ) (b : List ℕ) → 28 ≤ n → fields_in order (take n b) ≡ fields_in order b
fields_front order n b long = rw (
  word_front order n 8 b (omega arith),
  word_front order n 12 b (omega arith),
  word_front order n 16
      b (omega arith),
  word_front order n 20 b (omega arith),
  word_front order n 24 b (omega arith),
) refl

-- a header that is read of the front is that of the bytes
header_front : (n : ℕ) (b : List ℕ) (h g : Header) → header_of b ≡ Ok h → header_of (take n b) ≡ Ok g → g ≡ h
header_front n b h g whole part =
    let fits = header_fits (take n b) g part in
    let size = length-take n b in
    let long : 28 ≤ n = omega arith in
    let one = (header_found b h (first_fault (header_checks b)) whole).1 in
    let other = (header_found (take n b) g (first_fault (header_checks (take n b))) part).1 in
    sym other ∙ ap (λ o. fields_in (unwrap_or o Little) (take n b)) (order_front n b long) ∙ fields_front (read_order b) n b long ∙ one

-- what an offset word says of the locations
abbrev row_by : Header → ℕ → List ℕ → SlotRow
row_by h w section = cond (nat_lt w h.locations) (row_read (row_front (drop w section))) slot_row.Outside

-- a front with the whole index has the rows of the bytes
row_front_same : (n : ℕ) (b : List ℕ) (h : Header) (i : ℕ) → index_length h ≤ n → i < h.length → row_at (take n b) h i ≡ row_at b h i
row_front_same n b h i within below =
    let words : offset_word (take n b) h i ≡ offset_word b h i = word_front h.order n (offset_place h i) b (omega arith) in
    let sections : locations (take n b) h ≡ locations b h =
    ap (take h.locations) (drop_front n (locations_place h) b (omega arith)) ∙ take-take h.locations (n - locations_place h)
    (drop (locations_place h) b) (omega arith) in
    let rows : row_of_slot (take n b) h i ≡ row_of_slot b h i = ap (λ w. row_by h w (locations (take n b) h)) words
    ∙ ap (row_by h (offset_word b h i)) sections in
    ap spelled_row rows

-- The last content

-- it reaches the contents' end
last_content : (es : List Written) (k : ℕ) → k + 1 ≡ length es → content_place es k + length (get_or es k nothing).1
    ≡ length (contents_text es)
last_content es k last =
    let none : drop (k + 1) es ≡ [] = drop_all (k + 1) es (omega arith) in
    let all = ap length (content_parts es k nothing (omega arith)) in
    let both = length-append (contents_text (take k es)) ((get_or es k nothing).1 ++ contents_text (drop (k + 1) es)) in
    let later = length-append (get_or es k nothing).1 (contents_text (drop (k + 1) es)) in
    let empty : length (contents_text (drop (k + 1) es)) ≡ 0 = ap (λ l. length (contents_text l)) none in
    omega arith

some_entry : (es : List Written) → 0 < length (contents_text es) → (k : ℕ) × (k + 1 ≡ length es)
some_entry [] some = absurd (omega arith)
some_entry (e ∷ es) some = (length es, omega arith)

-- A written image

module _ (order : Order) (table : GreedyTable) (es : List Written) (writable : Writable order table es) where
  abbrev index : Index
  index = index_of order table (map sized es)

  abbrev b : List ℕ
  b = image_of order table es

  abbrev h : Header
  h = header_with index

  -- a front with the whole index that is valid has all contents
  whole_contents : (n : ℕ) → index_length h ≤ n → ValidAs (take n b) h → length b ≤ n
  whole_contents n within valid = go (some_or_none (length (contents_text es)))
    where
      all : length b ≡ index_length h + length (contents_text es)
      all =
          let both = length-append (index_text index) (contents_text es) in
          let size = length-index_text index (index_is_fit order table es writable) in
          omega arith

      some_or_none : (n : ℕ) → (n ≡ 0) ⊎ (0 < n)
      some_or_none n = grind arith

      go : (length (contents_text es) ≡ 0) ⊎ (0 < length (contents_text es)) → length b ≤ n
      go (inl none) = omega (arith, all)
      go (inr some) =
          let (k, last) = some_entry es some in
          let below : k < length es = omega arith in
          let i : ℕ = get_or table.slots k 0 in
          let inside = slot_below_length order table es writable k below in
          let there = row_front_same n b h i within inside ∙ row_at_is order table es writable k below in
          let sound = sound_row (take n b) h i (row_for es k) (valid.slots i inside) there in
          let reaches = last_content es k last in
          let cut = length-drop (index_length h) (take n b) in
          let front = length-take n b in
          let most = sound.within in
          omega (arith, all)

  pub prefix_damaged : (n : ℕ) → n < length b → first_damage (take n b) ≢ None
  prefix_damaged n short clear =
      let (g, valid) = sound_valid (take n b) clear in
      let header = header_is index (index_is_fit order table es writable) (contents_text es) in
      let same : g ≡ h = header_front n b h g header valid.header in
      let valid_h = subst (λ x. ValidAs (take n b) x) same valid in
      let room = header_fits (take n b) h valid_h.header in
      let front = length-take n b in
      let all = whole_contents n (omega arith) valid_h in
      absurd (omega arith)
