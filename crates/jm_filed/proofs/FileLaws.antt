-- Contents, or stored bytes, that were read one by one fit together to a file of the index by which they
-- were read.
use Rattle.std.proofs.Common.{◌≡◌, ◌≢◌, ◌≤◌, ◌<◌, ◌+◌, ◌-◌, ◌⊎◌, inl, inr, ℕ, true, false, Bool, List, [], ◌∷◌, drop, length}
use Rattle.std.proofs.Common.{map, take, All, Contains, Option, None, Some, Ok, refl, sym, ap, subst, ◌∙◌, arith}
use Rattle.std.proofs.lemmas.Bool.{true≢false}
use Rattle.std.proofs.lemmas.List.{drop-drop, drop-take, length-drop, length-take-le, nil_from_length}
use Rattle.std.proofs.lemmas.List.Elements.{All-cons, All-contains, All-head, All-nil, All-tail}
use Rattle.std.proofs.lemmas.Slice.{between-put_mid, drop-put_mid, take-put_mid_below}
use Rattle.std.proofs.lemmas.Slice.Eq.{bytes_eq-Decides}
use Rattle.std.specs.Str.{bytes_eq}
use borrow.Rule.Slice.PartMut.{put_mid, put_same, same_len_mid}
use Rattle.jm_bytes.proofs.Choice.{same_some}
use Rattle.jm_bytes.proofs.Members.{all_from_contains, contains_here, contains_later, contains_map, from_map}
use Rattle.jm_bytes.proofs.SameOrder.{mapped_twice}
use Rattle.jm_form.specs.declared.container.Header.{Header}
use Rattle.jm_form.specs.declared.rows.Compression.{Compression}
use Rattle.jm_form.specs.declared.rows.Compression.TheVariants.{Refused}
use Rattle.jm_form.specs.declared.rows.Row.{Row}
use Rattle.jm_form.specs.Entries.{Entry, content_of, entries, entry_of, name_of, row_at}
use Rattle.jm_form.specs.Head.{IsFileOf, header_with, index_length}
use Rattle.jm_form.specs.Overlap.{range_by}
use Rattle.jm_form.specs.Places.{contents, strings}
use Rattle.jm_form.specs.Rows.{judged}
use Rattle.jm_form.specs.Table.{probe}
use Rattle.jm_form.proofs.EntryLaws.{IsEntry, entry_from, entry_there}
use Rattle.jm_form.proofs.HeadLaws.{header_fits}
use Rattle.jm_form.proofs.LocalityLaws.{SameIndex, header_same, same_index, same_probe, same_row}
use Rattle.jm_form.proofs.SlotLaws.{sound_row_with}
use Rattle.jm_names.specs.ByName.{Named}
use Rattle.jm_outside.specs.Files.{Files, part}
use Rattle.jm_reader.specs.Listing.{IsIndex, IsIndexBy, entry_listed, listed}
use Rattle.jm_reader.specs.Walk.{entries_of, entries_with}
use Rattle.jm_reader.proofs.HeadLaws.{head_is}
use Rattle.jm_reader.proofs.IndexLaws.{file_begins, file_with, relisted}
use Rattle.jm_valid.specs.Opened.{Front}
use Rattle.jm_filed.specs.Filed.{IsFiled, IsIndexAt}
use Rattle.jm_filed.specs.Parts.{AgreeByName, AreRead, AreReadBy, AreReadOf, HasBytesBy, HasContents, IsSizedIn, all_named}
use Rattle.jm_filed.specs.Parts.{all_named_by, named, named_by}

-- the header of an index is that of its files
front_header : (c : Compression) (f : List ℕ) (size : ℕ) (h : Header) → IsIndexBy c f size h → header_with f size ≡ Ok h
front_header c f size h index =
    let b = file_with f size in
    let file = file_begins f size index.within in
    let fits = header_fits f h index.header in
    header_same f size b file (omega (arith, fits)) ∙ (index.valid b file).header

-- A text in the place of as many bytes

-- two ranges without a common place: one is empty, or stands before the other
apart_cases : (a n p m : ℕ) → ((k : ℕ) → a ≤ k → k < a + n → p ≤ k → k < p + m → ⊥)
    → (m ≡ 0) ⊎ ((n ≡ 0) ⊎ ((p + m ≤ a) ⊎ (a + n ≤ p)))
apart_cases a n p m apart = go (order a p) (order (p + m) a) (order (a + n) p) (order m 0) (order n 0)
  where
    order : (x y : ℕ) → (x ≤ y) ⊎ (y < x)
    order x y = grind arith

    go : (a ≤ p) ⊎ (p < a) → (p + m ≤ a) ⊎ (a < p + m) → (a + n ≤ p) ⊎ (p < a + n) → (m ≤ 0) ⊎ (0 < m) → (n ≤ 0) ⊎ (0 < n)
        → (m ≡ 0) ⊎ ((n ≡ 0) ⊎ ((p + m ≤ a) ⊎ (a + n ≤ p)))
    go first (inl before) after some more = inr (inr (inl before))
    go first before (inl after) some more = inr (inr (inr after))
    go first before after (inl none) more = inl (omega (arith, none))
    go first before after some (inl none) = inr (inl (omega (arith, none)))
    go (inl first) (inr before) (inr after) (inr some) (inr more) =
        let both = apart p first after (omega arith) (omega (arith, some)) in absurd both
    go (inr first) (inr before) (inr after) (inr some) (inr more) =
        let both = apart a (omega arith) (omega (arith, more)) (omega (arith, first)) before in absurd both

-- a list with a text from a place on
abbrev with_text : List ℕ → List ℕ → ℕ → List ℕ
with_text b text at = put_mid at (length text) b text

module _ (b text : List ℕ) (at : ℕ) (within : at + length text ≤ length b) where
  -- it is as long
  length-with_text : length (with_text b text at) ≡ length b
  length-with_text =
      let behind = length-drop at b in
      same_len_mid at (length text) b text (sym (length-take-le (length text) (drop at b) (omega arith)))

  -- it begins as before
  take-with_text : (n : ℕ) → n ≤ at → take n (with_text b text at) ≡ take n b
  take-with_text n below = take-put_mid_below at (length text) b text n below (omega arith)

  -- the text is its part
  part_there : part (with_text b text at) at (length text) ≡ text
  part_there =
      let size : at + length text - at ≡ length text = omega arith in
      ap (λ n. take n (drop at (with_text b text at))) (sym size)
      ∙ between-put_mid at (length text) b text (at + length text) (omega arith) (sym size)

  -- and a part without a byte of it is as before
  part_apart : (p m : ℕ) → ((k : ℕ) → at ≤ k → k < at + length text → p ≤ k → k < p + m → ⊥)
      → part (with_text b text at) p m ≡ part b p m
  part_apart p m apart = go (apart_cases at (length text) p m apart)
    where
      go : (m ≡ 0) ⊎ ((length text ≡ 0) ⊎ ((p + m ≤ at) ⊎ (at + length text ≤ p)))
          → part (with_text b text at) p m ≡ part b p m
      go (inl none) = ap (part (with_text b text at) p) none ∙ ap (part b p) (sym none)
      go (inr (inl none)) =
          let same : text ≡ take (length text) (drop at b) =
          nil_from_length text none ∙ ap (λ n. take n (drop at b)) (sym none)
          in
          ap (λ (l : List ℕ). part (put_mid at (length text) b l) p m) same
          ∙ ap (λ (l : List ℕ). part l p m) (put_same at (length text) b)
      go (inr (inr (inl before))) =
          sym (drop-take p m (with_text b text at)) ∙ ap (drop p) (take-with_text (p + m) before) ∙ drop-take p m b
      go (inr (inr (inr after))) = ap (take m) (drop-put_mid at (length text) b text p after (omega arith) refl)

-- Files of an index

-- what a compression has for each name of an image
abbrev Has : Compression → List ℕ → Named → Type 0
Has c b q = Contains (all_named_by c b) q

-- where the bytes of a row stand in a file
abbrev place_of : Header → Row → ℕ
place_of h row = index_length h + row.offset

module _ (c : Compression) (f : List ℕ) (size : ℕ) (h : Header) (index : IsIndexBy c f size h) (alone : length f ≡ index_length h) where
  same : (b : List ℕ) → IsFileOf f size b → SameIndex f b h
  same b file = same_index f size b h file (header_fits f h index.header)

  all_entries : (b : List ℕ) → IsFileOf f size b → entries_of b ≡ entries b h
  all_entries b file = ap (entries_with b) (index.valid b file).header

  -- what stands where the row of an entry says
  abbrev bytes_of : List ℕ → Entry → List ℕ
  bytes_of b e = content_of (contents b h) (judged c e.row)

  -- it is what the image has for the entry's name
  named_is : (b : List ℕ) → IsFileOf f size b → (e : Entry) → named_by c b e ≡ (e.name, bytes_of b e)
  named_is b file e = ap (λ g. (e.name, content_of (contents b g) (judged c e.row))) (head_is b h (index.valid b file).header)

  -- an entry of one is an entry of each other, with what its row says there
  in_each : (b d : List ℕ) → IsFileOf f size b → IsFileOf f size d → (e : Entry) → Contains (entries b h) e
      → Has c d (e.name, bytes_of d e)
  in_each b d file other e there =
      let is = entry_from b h e there in
      let one = same b file in
      let two = same d other in
      let row : row_at d h e.slot ≡ Some e.row =
      sym (same_row f d h two e.slot is.below) ∙ same_row f b h one e.slot is.below ∙ is.row
      in
      let name : e.name ≡ name_of (strings d h) e.row =
      ap (λ (g : Entry). g.name) is.is ∙ ap (λ s. name_of s e.row) (sym one.strings ∙ two.strings)
      in
      let led : probe d h (name_of (strings d h) e.row) ≡ Some e.slot =
      ap (probe d h) (sym name) ∙ sym (same_probe f d h two e.name) ∙ same_probe f b h one e.name ∙ is.led
      in
      let g : Entry = entry_of d h e.slot e.row in
      let found = contains_map (named_by c d) (entries_of d) g
      (subst (λ (es : List Entry). Contains es g) (sym (all_entries d other)) (entry_there d h e.slot e.row is.below row led)) in
      subst (λ (n : List ℕ). Has c d (n, bytes_of d e)) (sym name) (subst (Has c d) (named_is d other g) found)

  content_is : (b : List ℕ) (row : Row) → content_of (contents b h) row ≡ part b (place_of h row) row.size
  content_is b row = ap (take row.size) (drop-drop row.offset (index_length h) b)

  -- it has as many bytes as the row says
  row_size : (b : List ℕ) → IsFileOf f size b → (e : Entry) → Contains (entries b h) e → length (bytes_of b e) ≡ (judged c e.row).size
  row_size b file e there =
      let is = entry_from b h e there in
      let sound = sound_row_with c b h (length (contents b h)) e.slot e.row ((index.valid b file).slots e.slot is.below) is.row in
      let row : Row = judged c e.row in
      let behind = length-drop row.offset (contents b h) in
      let lies = sound.within in
      length-take-le row.size (drop row.offset (contents b h)) (omega arith)

  -- The bytes of one name in their place

  module _ (b : List ℕ) (file : IsFileOf f size b) (e : Entry) (there : Contains (entries b h) e) (text : List ℕ)
      (long : length text ≡ (judged c e.row).size) where
    abbrev place : ℕ
    place = place_of h (judged c e.row)

    abbrev filled : List ℕ
    filled = with_text b text place

    within : place + length text ≤ length b
    within =
        let is = entry_from b h e there in
        let valid = index.valid b file in
        let sound = sound_row_with c b h (length (contents b h)) e.slot e.row (valid.slots e.slot is.below) is.row in
        let fits = header_fits b h valid.header in
        let behind = length-drop (index_length h) b in
        let lies = sound.within in
        omega arith

    -- it is a file of the index
    still_file : IsFileOf f size filled
    still_file = record {
      begins = take-with_text b text place within (length f) (omega (arith, alone)) ∙ file.begins;
      length_is = length-with_text b text place within ∙ file.length_is;
    }

    -- with these bytes
    has_bytes : Has c filled (e.name, text)
    has_bytes =
        let is : bytes_of filled e ≡ text =
        content_is filled (judged c e.row) ∙ ap (part filled place) (sym long) ∙ part_there b text place within
        in
        subst (λ (t : List ℕ). Has c filled (e.name, t)) is (in_each b filled file still_file e there)

    -- and those of all other names as before
    keeps_bytes : (g : Entry) → Contains (entries b h) g → e.name ≢ g.name → Has c filled (named_by c b g)
    keeps_bytes g other differ =
        let row : Row = judged c g.row in
        let is : bytes_of filled g ≡ bytes_of b g =
        content_is filled row ∙ part_apart b text place within (place_of h row) row.size apart ∙ sym (content_is b row)
        in
        subst (Has c filled) (sym (named_is b file g))
        (subst (λ (t : List ℕ). Has c filled (g.name, t)) is (in_each b filled file still_file g other))
      where
        first : IsEntry b h e
        first = entry_from b h e there

        own : IsEntry b h g
        own = entry_from b h g other

        slots : e.slot ≢ g.slot
        slots equal =
            let rows : e.row ≡ g.row = same_some e.row g.row (sym first.row ∙ ap (row_at b h) equal ∙ own.row) in
            differ
            (ap (λ (d : Entry). d.name) first.is ∙ ap (name_of (strings b h)) rows ∙ sym (ap (λ (d : Entry). d.name) own.is))

        apart : (k : ℕ) → place ≤ k → k < place + length text → place_of h (judged c g.row) ≤ k
            → k < place_of h (judged c g.row) + (judged c g.row).size → ⊥
        apart k from to other_from other_to = (index.valid b file).apart (range_by c e) (range_by c g)
            (contains_map (range_by c) (entries b h) e there) (contains_map (range_by c) (entries b h) g other) (record {
              slots = slots;
              place = k - index_length h;
              first = record { from = omega arith; to = omega arith };
              second = record { from = omega arith; to = omega arith };
            })

    -- so what agrees with it, where it has its name, is there still
    stays : (q : Named) → Has c b q → (e.name ≡ q.0 → text ≡ q.1) → Has c filled q
    stays q before agree = go (bytes_eq e.name q.0) refl
      where
        go : (t : Bool) → bytes_eq e.name q.0 ≡ t → Has c filled q
        go true is =
            let same = (bytes_eq-Decides e.name q.0).0 is in
            subst (Has c filled) (λ i. (same i, agree same i)) has_bytes
        go false is =
            let from = from_map (named_by c b) (entries_of b) q before in
            let g : Entry = from.0 in
            let other : Contains (entries b h) g = subst (λ (es : List Entry). Contains es g) (all_entries b file) from.1 in
            let differ : e.name ≡ g.name → ⊥ = λ same.
            true≢false (sym ((bytes_eq-Decides e.name q.0).1 (same ∙ ap (λ (r : Named). r.0) from.2)) ∙ is)
            in
            subst (Has c filled) from.2 (keeps_bytes g other differ)

  -- The bytes of names, one by one

  -- one more, which agrees with those that were read of its name
  bytes_put : (b : List ℕ) → IsFileOf f size b → (p : Named) (read : List Named) → IsSizedIn (all_named_by c b) p
      → ((q : Named) → Contains read q → p.0 ≡ q.0 → p.1 ≡ q.1) → HasBytesBy c b read
      → (d : List ℕ) × IsFileOf f size d × HasBytesBy c d (p ∷ read)
  bytes_put b file p read sized agree before =
      let from = from_map (named_by c b) (entries_of b) (p.0, sized.0) sized.1 in
      let e : Entry = from.0 in
      let there : Contains (entries b h) e = subst (λ (es : List Entry). Contains es e) (all_entries b file) from.1 in
      let name : e.name ≡ p.0 = ap (λ (q : Named). q.0) from.2 in
      let long : length p.1 ≡ (judged c e.row).size =
      sym sized.2 ∙ sym (ap (λ (q : Named). length q.1) from.2) ∙ ap (λ (q : Named). length q.1) (named_is b file e)
      ∙ row_size b file e there
      in
      let d : List ℕ = with_text b p.1 (place_of h (judged c e.row)) in
      let own : Has c d p =
      subst (λ (n : List ℕ). Has c d (n, p.1)) name (has_bytes b file e there p.1 long)
      in
      let each : (q : Named) → Contains read q → Has c d q = λ q too.
      stays b file e there p.1 long q (All-contains (Has c b) read q before too)
      (λ same. agree q too (sym name ∙ same))
      in
      (d, still_file b file e there p.1 long, All-cons (Has c d) p read own (all_from_contains (Has c d) read each))

  all_put : (read : List Named) → AgreeByName read → ((b : List ℕ) → IsFileOf f size b → All (IsSizedIn (all_named_by c b)) read)
      → (b : List ℕ) × IsFileOf f size b × HasBytesBy c b read
  all_put [] agree sized =
      let b : List ℕ = file_with f size in
      (b, file_begins f size index.within, All-nil (Has c b))
  all_put (p ∷ read) agree sized =
      let rest = all_put read (λ q r first second. agree q r (contains_later p read q first) (contains_later p read r second))
      (λ b file. All-tail (IsSizedIn (all_named_by c b)) p read (sized b file)) in
      bytes_put rest.0 rest.1 p read (All-head (IsSizedIn (all_named_by c rest.0)) p read (sized rest.0 rest.1))
      (λ q there. agree p q (contains_here p read) (contains_later p read q there)) rest.2

-- The law

-- bytes that were read of an index's file, each where the row of its name says, are those of a file of the
-- index, which is the one at the path, where it is told
pub bytes_read : (c : Compression) (index : Front) (h : Header) → IsIndexBy c index.bytes index.length h → (told : Option Files)
    (path : List ℕ) → IsIndexAt index told path → (read : List Named) → AreReadBy c index told path read
    → (b : List ℕ) × IsFiled index told path b × HasBytesBy c b read
bytes_read c index h is (Some files) path at read are =
    let filed = at.filed in
    (filed.0, (filed.2, filed.1), are.contents filed.0 (filed.2, filed.1))
bytes_read c index h is None path at read are =
    let f = index.bytes in
    let size = index.length in
    let put = all_put c f size h is (at.alone h (front_header c f size h is)) read are.agree (λ b file. are.sizes b (file, tt)) in
    (put.0, (put.1, tt), put.2)

-- where no content is compressed, the bytes of a name are the content
all_content : (b : List ℕ) → all_named_by Refused b ≡ all_named b
all_content b =
    sym (mapped_twice (λ x. named (entry_listed b x)) listed (entries_of b)) ∙ sym (mapped_twice named (entry_listed b)
    (map listed (entries_of b))) ∙ ap (map named) (relisted b)

-- so contents that were read of an index's file are those of a file of the index, which is the one at the
-- path, where it is told
pub file_read : (index : Front) (h : Header) → IsIndex index.bytes index.length h → (told : Option Files) (path : List ℕ)
    → IsIndexAt index told path → (read : List Named) → AreRead index told path read
    → (b : List ℕ) × IsFiled index told path b × HasContents b read
file_read index h is told path at read are =
    subst (λ (all : List ℕ → List Named). AreReadOf all index told path read
    → (b : List ℕ) × IsFiled index told path b × All (Contains (all b)) read) (λ i b. all_content b i)
    (bytes_read Refused index h is told path at read) are
