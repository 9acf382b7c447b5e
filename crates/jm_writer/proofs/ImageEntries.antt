-- The entries of a written image: each has its slot, with its name and its content.
use Rattle.std.proofs.Common.{◌≡◌, ◌≢◌, ℕ, ◌+◌, ◌^◌, ◌==◌, ◌<◌, ◌≤◌, false, List, [], length, map, take, drop}
use Rattle.std.proofs.Common.{get_or, Option, Some, None, Contains, refl, sym, ap, ◌∙◌, subst, arith}
use Rattle.std.proofs.Common.{length-append, mod-lt}
use Rattle.std.proofs.lemmas.Bool.{ne_eqb}
use Rattle.std.proofs.lemmas.Bool.Decides.{Decides-eqb}
use Rattle.std.proofs.lemmas.List.{get_or-map, get_or_default, length-map}
use Rattle.std.proofs.lemmas.List.Elements.{All-get_or, All-map, Contains-get_or}
use Rattle.std.proofs.lemmas.List.FromFn.{length-range_with_len}
use Rattle.std.specs.List.{range_with_len}
use Rattle.jm_bytes.proofs.Choice.{same_some}
use Rattle.jm_bytes.proofs.Members.{contains_range}
use Rattle.jm_bytes.proofs.SameOrder.{mapped_twice}
use Rattle.jm_bytes.specs.declared.words.Order.{Order}
use Rattle.jm_names.specs.Hash.{default_seed, hash}
use Rattle.jm_names.specs.Names.{split}
use Rattle.jm_form.specs.Strings.{section_of, IsZeroFree}
use Rattle.jm_form.specs.declared.container.Header.{Header}
use Rattle.jm_form.specs.declared.rows.Row.{Row}
use Rattle.jm_form.specs.declared.slots.SlotRow.TheVariants as slot_row
use Rattle.jm_form.specs.Entries.{Entry, content_of, entries, entry_of, name_of, row_at, row_of_slot, spelled_row}
use Rattle.jm_form.specs.Greedy.{GreedyTable, bucket_of, word_of}
use Rattle.jm_form.specs.Layout.{Index, Written, contents_text, image_of, index_of, index_text, names_of}
use Rattle.jm_form.specs.Layout.{redirect_words, row_in, row_with, sized, texts_of}
use Rattle.jm_form.specs.Places.{contents, redirect_word, strings}
use Rattle.jm_form.specs.Rows.{blank}
use Rattle.jm_form.specs.Table.{probe, redirect_at, redirect_of, slot_of}
use Rattle.jm_form.proofs.EntryLaws.{entry_from, entry_there}
use Rattle.jm_form.proofs.LookLaws.{slot_within}
use Rattle.jm_form.proofs.PartLaws.{length-rows}
use Rattle.jm_form.proofs.UsualLaws.{RowFits}
use Rattle.jm_writer.specs.Writable.{Writable, header_with}
use Rattle.jm_writer.proofs.ImageLists.{length_within, lookup_at, lookup_from}
use Rattle.jm_writer.proofs.ImageRows.{content_place, content_there, content_within, row_there, slot_spare, slot_taken}
use Rattle.jm_writer.proofs.ImageSections.{IndexFits, contents_are, length-index_text, redirect_word_is, strings_are}
use Rattle.jm_writer.proofs.ImageTexts.{CutTold, blank_tells, name_told, row_tells}

-- The table

-- where the word of a name's bucket leads, there the table leads the name
probe_by : (b : List ℕ) (h : Header) (name : List ℕ) (word i : ℕ) → 0 < h.length → redirect_word b h (bucket_of h.length name)
    ≡ word → slot_of h.length name (redirect_of word) ≡ Some i → probe b h name ≡ Some i
probe_by b h name word i some is led =
    let slots : h.length == 0 ≡ false = ne_eqb h.length 0 (λ e. omega arith) in
    let there : redirect_at b h (hash default_seed name) ≡ redirect_of word = rw slots (ap redirect_of is) in
    ap (slot_of h.length name) there ∙ led

-- A written image

abbrev pub nothing : Written
nothing = ([], [])

-- the texts of entries, and the row of entry k
abbrev pub texts_in : List Written → List (List ℕ)
texts_in es = texts_of (map (λ e. e.name) (map sized es))

abbrev pub row_for : List Written → ℕ → Row
row_for es k = row_with (texts_in es) (split (get_or es k nothing).0) (0 + content_place es k) (length (get_or es k nothing).1)

module _ (order : Order) (table : GreedyTable) (es : List Written) (writable : Writable order table es) where
  abbrev index : Index
  index = index_of order table (map sized es)

  abbrev b : List ℕ
  b = image_of order table es

  abbrev h : Header
  h = header_with index

  abbrev slot : ℕ → ℕ
  slot k = get_or table.slots k 0

  abbrev name : ℕ → List ℕ
  name k = (get_or es k nothing).0

  abbrev content : ℕ → List ℕ
  content k = (get_or es k nothing).1

  pub length-slots : length table.slots ≡ length es
  length-slots = writable.serves.given_length ∙ length-map es (λ r. r.0)

  pub length-written : length index.rows ≡ length es
  length-written = length-rows (texts_in es) 0 (map sized es) ∙ length-map es sized

  name_at : (k : ℕ) → k < length es → get_or (names_of es) k [] ≡ name k
  name_at k below = get_or-map (λ r. r.0) es k nothing [] below

  pub length-names : length (names_of es) ≡ length es
  length-names = length-map es (λ r. r.0)

  -- the table's word leads each name to its slot
  word_leads : (k : ℕ) → k < length es
      → slot_of table.length (name k) (redirect_of (get_or (redirect_words index) (bucket_of table.length (name k)) 0)) ≡ Some (slot k)
  word_leads k below =
      let many = length-names in
      subst (λ n. slot_of table.length n (redirect_of (get_or (redirect_words index) (bucket_of table.length n) 0)) ≡ Some (slot k))
      (name_at k below) (writable.serves.led k (omega arith))

  pub slot_below_length : (k : ℕ) → k < length es → slot k < table.length
  slot_below_length k below = slot_within table.length (name k)
      (redirect_of (get_or (redirect_words index) (bucket_of table.length (name k)) 0)) (slot k) (word_leads k below)

  -- there are no more entries than slots
  slots_enough : length es ≤ table.length
  slots_enough =
      let many = length-slots in
      let all = length-range_with_len 0 table.length in
      let most = length_within table.slots (range_with_len 0 table.length) writable.serves.apart among in
      omega arith
    where
      among : (i : ℕ) → Contains table.slots i → Contains (range_with_len 0 table.length) i
      among i (k, below, is) =
          let many = length-slots in
          let same : slot k ≡ i = sym (get_or_default table.slots k i 0 below) ∙ is in
          let inside = slot_below_length k (omega arith) in
          contains_range 0 table.length i (omega arith) (omega arith)

  pub index_is_fit : IndexFits index
  index_is_fit =
      let all = length-append (index_text index) (contents_text es) in
      let within = writable.within in
      let enough = slots_enough in
      let many = length-written in
      record {
        redirects = writable.serves.words_length;
        words = All-map (λ w. w < 2 ^ 32) word_of table.redirects writable.words;
        count = omega arith;
        within = omega arith;
      }

  pub name_leads : (k : ℕ) → k < length es → probe b h (name k) ≡ Some (slot k)
  name_leads k below =
      let inside = slot_below_length k below in
      let some : 0 < table.length = omega arith in
      let bucket : ℕ = bucket_of table.length (name k) in
      let within : bucket < table.length = mod-lt (hash default_seed (name k)) some in
      probe_by b h (name k) (get_or (redirect_words index) bucket 0) (slot k) some (redirect_word_is index index_is_fit
      (contents_text es) bucket within) (word_leads k below)

  -- the row of each entry

  names_same : names_of es ≡ map (λ e. e.name) (map sized es)
  names_same = sym (mapped_twice (λ e. e.name) sized es)

  pub pieces_told : (k : ℕ) → k < length es → CutTold (texts_in es) (split (name k))
  pieces_told k below =
      let many = length-names in
      let at = name_at k below in
      let there = subst (Contains (names_of es)) at (Contains-get_or (names_of es) k [] (omega arith)) in
      let free = subst IsZeroFree at (All-get_or IsZeroFree (names_of es) k [] (omega arith) writable.zero_free) in
      name_told (map (λ e. e.name) (map sized es)) (name k) (subst (λ ns. Contains ns (name k)) names_same there) free

  row_fits : (k : ℕ) → k < length es → RowFits (row_for es k)
  row_fits k below =
      let texts = pieces_told k below in
      let one = texts.«module».below in
      let two = texts.parent.below in
      let three = texts.base.below in
      let four = texts.ext.below in
      let size = length-index_text index index_is_fit in
      let all = length-append (index_text index) (contents_text es) in
      let within = writable.within in
      let inside = content_within es k nothing below in
      record {
        «module» = omega arith;
        parent = omega arith;
        base = omega arith;
        ext = omega arith;
        offset = omega arith;
        packed =
            omega arith;
        size = omega arith;
      }

  row_some : (k : ℕ) → k < length es → row_for es k ≢ blank
  row_some k below same =
      let many = length-names in
      let named = subst (λ n. n ≢ []) (name_at k below) (All-get_or (λ n. n ≢ []) (names_of es) k [] (omega arith) writable.named) in
      let tells = row_tells (texts_in es) (name k) (0 + content_place es k) (length (content k)) (pieces_told k below) in
      named (sym tells ∙ ap (name_of (section_of (texts_in es))) same ∙ blank_tells (map (λ e. e.name) (map sized es)))

  row_is : (k : ℕ) → k < length es → row_in index (slot k) ≡ Some (row_for es k)
  row_is k below =
      let slots = length-slots in
      let rows = length-written in
      lookup_at (λ a b. a == b) (λ a b. Decides-eqb a b) table.slots index.rows k 0 blank writable.serves.apart (omega arith)
      (omega arith) ∙ ap (λ (r : Row). Some r) (row_there (texts_in es) 0 es k blank nothing below)

  pub slot_row_is : (k : ℕ) → k < length es → row_of_slot b h (slot k) ≡ slot_row.Spelled (row_for es k)
  slot_row_is k below = slot_taken index index_is_fit (contents_text es) (slot k) (row_for es k) (slot_below_length k below)
      (row_is k below) (row_fits k below) (row_some k below)

  pub row_at_is : (k : ℕ) → k < length es → row_at b h (slot k) ≡ Some (row_for es k)
  row_at_is k below = ap spelled_row (slot_row_is k below)

  -- its name and its content

  pub name_is : (k : ℕ) → k < length es → name_of (strings b h) (row_for es k) ≡ name k
  name_is k below = ap (λ s. name_of s (row_for es k)) (strings_are index index_is_fit (contents_text es))
      ∙ row_tells (texts_in es) (name k) (0 + content_place es k) (length (content k)) (pieces_told k below)

  pub content_is : (k : ℕ) → k < length es → content_of (contents b h) (row_for es k) ≡ content k
  content_is k below =
      let place : 0 + content_place es k ≡ content_place es k = omega arith in
      ap (λ c. content_of c (row_for es k)) (contents_are index index_is_fit (contents_text es))
      ∙ ap (λ n. take (length (content k)) (drop n (contents_text es))) place ∙ content_there es k nothing below

  -- entry k
  abbrev entry : ℕ → Entry
  entry k = entry_of b h (slot k) (row_for es k)

  -- each is an entry of the image
  pub entry_is_there : (k : ℕ) → k < length es → Contains (entries b h) (entry k)
  entry_is_there k below = entry_there b h (slot k) (row_for es k) (slot_below_length k below) (row_at_is k below)
      (ap (probe b h) (name_is k below) ∙ name_leads k below)

  -- and there is no other

  -- a slot that isn't blank is that of an entry
  pub record OfEntry (i : ℕ) (row : Row) : Type 0 where
    pub place : ℕ
    pub below : place < length es
    pub slot_is : slot place ≡ i
    pub row_is : row_for es place ≡ row

  pub slot_of_entry : (i : ℕ) (row : Row) → i < table.length → row_at b h i ≡ Some row → OfEntry i row
  slot_of_entry i row inside there = go (row_in index i) refl
    where
      go : (o : Option Row) → row_in index i ≡ o → OfEntry i row
      go None none = let blank_there = sym there ∙ ap spelled_row (slot_spare index index_is_fit (contents_text es) i inside none) in cc
      go (Some found) is =
          let at = lookup_from i table.slots index.rows found is in
          let k : ℕ = at.place in
          let many = length-slots in
          let first = at.below in
          let below : k < length es = omega arith in
          let rows : Some (row_for es k) ≡ Some row = sym (row_at_is k below) ∙ ap (row_at b h) at.here ∙ there in
          record { place = k; below = below; slot_is = at.here; row_is = same_some (row_for es k) row rows }

  -- so a slot has the row that the index gives it, or none
  pub row_at_slot : (i : ℕ) → i < table.length → row_at b h i ≡ row_in index i
  row_at_slot i inside = go (row_in index i) refl
    where
      go : (o : Option Row) → row_in index i ≡ o → row_at b h i ≡ row_in index i
      go None none = ap spelled_row (slot_spare index index_is_fit (contents_text es) i inside none) ∙ sym none
      go (Some found) is =
          let at = lookup_from i table.slots index.rows found is in
          let many = length-slots in
          let first = at.below in
          let below : at.place < length es = omega arith in
          ap (row_at b h) (sym at.here) ∙ row_at_is at.place below ∙ sym (row_is at.place below) ∙ ap (row_in index) at.here

  pub entry_is_written : (e : Entry) → Contains (entries b h) e → (k : ℕ) × (k < length es) × (e ≡ entry k)
  entry_is_written e there =
      let from = entry_from b h e there in
      let at = slot_of_entry e.slot e.row from.below from.row in
      (at.place, at.below, from.is ∙ ap (λ i. entry_of b h i e.row) (sym at.slot_is) ∙ ap (entry_of b h (slot at.place)) (sym at.row_is))
