-- The parts of an image that an index makes, with contents behind it: the words of its two tables, its
-- locations, its strings and its contents.
use Rattle.std.proofs.Common.{◌≡◌, ℕ, zero, suc, ◌+◌, ◌-◌, ◌*◌, ◌^◌, ◌<◌, ◌≤◌, List, ◌∷◌, ◌++◌, length, take}
use Rattle.std.proofs.Common.{drop, get_or, Option, Some, None, Ok, All, refl, sym, ap, ◌∙◌, subst, arith}
use Rattle.std.proofs.Common.{append_assoc, length-append, drop_at, take_at}
use Rattle.std.proofs.lemmas.List.{get_or_append_left, get_or-append-add}
use Rattle.std.proofs.lemmas.List.Concat.{flat_map-append}
use Rattle.std.proofs.lemmas.List.Elements.{All-get_or}
use Rattle.std.proofs.lemmas.List.FromFn.{length-map-range_with_len, get_or-map-range_with_len}
use Rattle.std.specs.List.{flat_map, range_with_len}
use Rattle.jm_bytes.specs.Word.{word}
use Rattle.jm_form.specs.Strings.{section_of}
use Rattle.jm_form.specs.declared.container.Header.{Header}
use Rattle.jm_form.specs.declared.rows.Row.{Row}
use Rattle.jm_form.specs.Head.{header_of, index_length}
use Rattle.jm_form.specs.Layout.{Index, header_words, index_text, index_words, location_of, locations_below}
use Rattle.jm_form.specs.Layout.{locations_text, offset_words, redirect_words, row_in, row_place}
use Rattle.jm_form.specs.Nodes.{words_text}
use Rattle.jm_form.specs.Places.{contents, locations, offset_word, redirect_word, strings}
use Rattle.jm_form.proofs.PartLaws.{length-words_text, word_there}
use Rattle.jm_writer.specs.Writable.{header_with}
use Rattle.jm_writer.proofs.ImageWords.{HasWords, header_back}

-- Lists

-- the part behind a front of known length
cut_part : (a x c : List ℕ) (n m : ℕ) → length a ≡ n → length x ≡ m → take m (drop n (a ++ (x ++ c))) ≡ x
cut_part a x c n m front size = ap (take m) (drop_at a (x ++ c) n front) ∙ take_at x c m size

-- the numbers up to one, that one and those behind it
pub range_parts : (a n m : ℕ) → range_with_len a (n + suc m) ≡ range_with_len a n ++ ((a + n) ∷ range_with_len (a + n + 1) m)
range_parts a zero m =
    let count : 0 + suc m ≡ suc m = omega arith in
    let here : a ≡ a + 0 = omega arith in
    ap (range_with_len a) count ∙ ap (λ k. k ∷ range_with_len (k + 1) m) here
range_parts a (suc n) m =
    let count : suc n + suc m ≡ suc (n + suc m) = omega arith in
    let next : a + 1 + n ≡ a + suc n = omega arith in
    ap (range_with_len a) count ∙ ap (λ ks. a ∷ ks) (range_parts (a + 1) n m)
    ∙ ap (λ k. a ∷ (range_with_len (a + 1) n ++ (k ∷ range_with_len (k + 1) m))) next

-- Locations

-- the locations behind those of a slot
abbrev pub locations_behind : Index → ℕ → List ℕ
locations_behind index slot = flat_map (λ below. location_of (row_in index below)) (range_with_len (0 + slot + 1)
    (index.table.length - slot - 1))

-- the locations up to a slot's, that one and those behind it
pub locations_parts : (index : Index) (slot : ℕ) → slot < index.table.length → locations_text index ≡ locations_below index slot
    ++ (location_of (row_in index slot) ++ locations_behind index slot)
locations_parts index slot below =
    let f : ℕ → List ℕ = λ k. location_of (row_in index k) in
    let m : ℕ = index.table.length - slot - 1 in
    let count : index.table.length ≡ slot + suc m = omega arith in
    let here : 0 + slot ≡ slot = omega arith in
    ap (λ n. 0 ∷ flat_map f (range_with_len 0 n)) count
    ∙ ap (λ ks. 0 ∷ flat_map f ks) (range_parts 0 slot m)
    ∙ ap (λ l. 0 ∷ l) (flat_map-append f (range_with_len 0 slot) ((0 + slot) ∷ range_with_len (0 + slot + 1) m))
    ∙ ap (λ k. 0 ∷ (flat_map f (range_with_len 0 slot) ++ (f k ++ locations_behind index slot))) here

-- no row's place is past the locations
pub row_place-le : (index : Index) (slot : ℕ) → slot < index.table.length → row_place index slot ≤ length (locations_text index)
row_place-le index slot below = go (row_in index slot) refl
  where
    go : (o : Option Row) → row_in index slot ≡ o → row_place index slot ≤ length (locations_text index)
    go None is = rw is (omega arith)
    go (Some row) is =
        let all = ap length (locations_parts index slot below) in
        let size = length-append (locations_below index slot) (location_of (row_in index slot) ++ locations_behind index slot) in
        let most : length (locations_below index slot) ≤ length (locations_text index) = omega (arith, all, size) in
        rw is most

-- An index

-- the redirect words are as many as the slots, they are words, there are no more rows than slots, and
-- the index is shorter than 2 ^ 32
pub record IndexFits (index : Index) : Type 0 where
  pub redirects : length (redirect_words index) ≡ index.table.length
  pub words : All (λ w. w < 2 ^ 32) (redirect_words index)
  pub count : length index.rows ≤ index.table.length
  pub within : length (index_text index) < 2 ^ 32

module _ (index : Index) (fits : IndexFits index) where
  abbrev h : Header
  h = header_with index

  abbrev words : List ℕ
  words = words_text index.order (index_words index)

  length-words : length words ≡ 28 + 8 * index.table.length
  length-words =
      let all = length-words_text index.order (index_words index) in
      let both = length-append (redirect_words index) (offset_words index) in
      let offsets = length-map-range_with_len (row_place index) 0 index.table.length in
      let redirects = fits.redirects in
      omega arith

  pub length-index_text : length (index_text index) ≡ index_length h
  length-index_text =
      let front = length-words in
      let all = length-append words (locations_text index ++ section_of index.texts) in
      let both = length-append (locations_text index) (section_of index.texts) in
      omega arith

  module _ (text : List ℕ) where
    abbrev b : List ℕ
    b = index_text index ++ text

    -- the words in front
    image_words : b ≡ words ++ ((locations_text index ++ section_of index.texts) ++ text)
    image_words = append_assoc words (locations_text index ++ section_of index.texts) text

    pub index_fits : index_length h ≤ length b
    index_fits =
        let size = length-index_text in
        let all = length-append (index_text index) text in
        omega arith

    has_words : HasWords h
    has_words =
        let size = length-index_text in
        let within = fits.within in
        let count = fits.count in
        record { flags = omega arith; count = omega arith; length = omega arith; locations = omega arith; strings = omega arith }

    pub header_is : header_of b ≡ Ok h
    header_is =
        let room = subst (λ l. index_length h ≤ length l) image_words index_fits in
        ap header_of image_words ∙ header_back h (redirect_words index ++ offset_words index)
        ((locations_text index ++ section_of index.texts) ++ text) has_words room

    -- a word behind the header
    word_behind_header : (k : ℕ) → k < 2 * index.table.length → get_or (redirect_words index ++ offset_words index) k 0 < 2 ^ 32
        → word index.order b (28 + 4 * k) ≡ get_or (redirect_words index ++ offset_words index) k 0
    word_behind_header k below fit =
        let size = length-words in
        let all = length-words_text index.order (index_words index) in
        let place : 28 + 4 * k ≡ 4 * (7 + k) = omega arith in
        let behind : get_or (index_words index) (7 + k) 0 ≡ get_or (redirect_words index ++ offset_words index) k 0 =
        get_or-append-add (header_words index) (redirect_words index ++ offset_words index) k 0 in
        ap (λ l. word index.order l (28 + 4 * k)) image_words
        ∙ ap (word index.order (words ++ ((locations_text index ++ section_of index.texts) ++ text))) place
        ∙ word_there index.order (index_words index) ((locations_text index ++ section_of index.texts) ++ text) (7 + k)
        (omega arith) (subst (λ w. w < 2 ^ 32) (sym behind) fit)
        ∙ behind

    pub redirect_word_is : (k : ℕ) → k < index.table.length → redirect_word b h k ≡ get_or (redirect_words index) k 0
    redirect_word_is k below =
        let size = fits.redirects in
        let first = get_or_append_left (redirect_words index) (offset_words index) 0 k (omega arith) in
        let fit = All-get_or (λ w. w < 2 ^ 32) (redirect_words index) k 0 (omega arith) fits.words in
        word_behind_header k (omega arith) (subst (λ w. w < 2 ^ 32) (sym first) fit) ∙ first

    pub offset_word_is : (i : ℕ) → i < index.table.length → offset_word b h i ≡ row_place index i
    offset_word_is i below =
        let size = fits.redirects in
        let count = length-index_text in
        let most = row_place-le index i below in
        let within = fits.within in
        let second : get_or (redirect_words index ++ offset_words index) (length (redirect_words index) + i) 0 ≡ row_place index i =
        get_or-append-add (redirect_words index) (offset_words index) i 0 ∙ get_or-map-range_with_len (row_place index) 0
        index.table.length i i 0 below (omega arith) in
        let place : 28 + 4 * index.table.length + 4 * i ≡ 28 + 4 * (length (redirect_words index) + i) = omega arith in
        let fit : row_place index i < 2 ^ 32 = omega arith in
        ap (word index.order b) place ∙ word_behind_header (length (redirect_words index) + i) (omega arith)
        (subst (λ w. w < 2 ^ 32) (sym second) fit) ∙ second

    pub locations_are : locations b h ≡ locations_text index
    locations_are =
        let apart = image_words ∙ ap (λ l. words ++ l) (append_assoc (locations_text index) (section_of index.texts) text) in
        ap (λ l. locations l h) apart ∙ cut_part words (locations_text index) (section_of index.texts ++ text)
        (28 + 8 * index.table.length) (length (locations_text index)) length-words refl

    pub strings_are : strings b h ≡ section_of index.texts
    strings_are =
        let apart = image_words ∙ ap (λ l. words ++ l) (append_assoc (locations_text index) (section_of index.texts) text)
        ∙ sym (append_assoc words (locations_text index) (section_of index.texts ++ text)) in
        let size = length-append words (locations_text index) in
        let front = length-words in
        ap (λ l. strings l h) apart ∙ cut_part (words ++ locations_text index) (section_of index.texts) text
        (28 + 8 * index.table.length + length (locations_text index)) (length (section_of index.texts)) (omega arith) refl

    pub contents_are : contents b h ≡ text
    contents_are = drop_at (index_text index) text (index_length h) length-index_text
