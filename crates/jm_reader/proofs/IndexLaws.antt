-- What an index says of names and rows is what each file says that begins so.
use Rattle.std.proofs.Common.{◌≡◌, ℕ, ◌+◌, ◌-◌, ◌≤◌, Bool, true, false, cond, List, ◌++◌, length}
use Rattle.std.proofs.Common.{Option, Some, None, option_map, Ok, refl, sym, ap, ◌∙◌, subst, arith, length-append, length-drop}
use Rattle.std.proofs.Common.{[], ◌∷◌, ◌<◌, All, Err, Result, map, length-take}
use Rattle.std.proofs.lemmas.List.{length-replicate, take_at}
use Rattle.std.proofs.lemmas.List.Elements.{All-head, All-tail}
use Rattle.std.proofs.lemmas.Slice.Eq.{bytes_eq-Decides}
use Rattle.std.proofs.Math.ListN.{replicate}
use Rattle.std.specs.List.{range_with_len}
use Rattle.std.specs.Prelude.{Contains, IfSome}
use Rattle.std.specs.Str.{bytes_eq}
use Rattle.jm_form.specs.declared.container.Header.{Header}
use Rattle.jm_form.specs.declared.container.HeaderFault.{HeaderFault}
use Rattle.jm_form.specs.declared.rows.Compression.{Compression}
use Rattle.jm_form.specs.declared.rows.Compression.TheVariants.{Allowed, Refused}
use Rattle.jm_form.specs.declared.rows.Row.{Row}
use Rattle.jm_form.specs.Entries.{Entry, content_of, entries, indexed, name_of, row_at, texts_end}
use Rattle.jm_form.specs.Head.{header_of, index_length, IsFileOf}
use Rattle.jm_form.specs.Places.{contents, contents_size, strings}
use Rattle.jm_form.specs.Rows.{as_stored, judged}
use Rattle.jm_form.specs.Table.{probe}
use Rattle.jm_form.specs.Validity.{look, SoundAs, SoundRow, SoundRowWith, ValidAs}
use Rattle.jm_form.proofs.HeadLaws.{header_fits}
use Rattle.jm_form.proofs.EntryLaws.{entry_from}
use Rattle.jm_form.proofs.LocalityLaws.{same_entries, same_index, same_probe, same_row, SameIndex, whole_file}
use Rattle.jm_form.proofs.LookLaws.{look_blank, look_found, look_nowhere, look_other, look_row, probe_within}
use Rattle.jm_form.proofs.SlotLaws.{sound_row, sound_row_with, sound_texts_with}
use Rattle.jm_valid.specs.Opened.{Front}
use Rattle.jm_reader.specs.Listing.{IsIndexBy, entry_listed, listed, listed_from}
use Rattle.jm_reader.specs.Walk.{entries_in, entries_of, entries_with}
use Rattle.jm_reader.specs.Look.{head, if_named, row_led, row_of_name, SoundIn, TextsEnd}
use Rattle.jm_bytes.proofs.Members.{all_from_contains}
use Rattle.jm_reader.proofs.HeadLaws.{head_is, head_valid}

-- Images

-- the texts of the rows of a valid image end
pub texts_of_valid : (c : Compression) (b : List ℕ) (h : Header) → SoundAs c b h → TextsEnd b h
texts_of_valid Refused b h valid slot row below there =
    let size = length (contents b h) in
    sound_texts_with (strings b h) size row (sound_row_with Refused b h size slot row (valid.slots slot below) there)
texts_of_valid Allowed b h valid slot row below there =
    let size = length (contents b h) in
    sound_texts_with (strings b h) size (as_stored row) (sound_row_with Allowed b h size slot row (valid.slots slot below) there)

different : (b : Bool) → b ≡ false → b ≡ true → ⊥
different b no_answer answer = cc

-- the row of the slot to which a name leads is that of its entry
pub row_found : (b : List ℕ) (h : Header) (name : List ℕ) → ValidAs b h → row_of_name b h name
    ≡ option_map (λ (found : Row × List ℕ). found.0) (look b name)
row_found b h name valid = led (probe b h name) refl
  where
    answer : Option (Row × List ℕ) → Option Row
    answer found = option_map (λ (found : Row × List ℕ). found.0) found

    named : (slot : ℕ) (row : Row) → probe b h name ≡ Some slot → row_at b h slot ≡ Some row → (t : Bool)
        → bytes_eq name (name_of (strings b h) row) ≡ t → cond t (Some row) None ≡ answer (look b name)
    named slot row there is true same =
        let named = (bytes_eq-Decides name (name_of (strings b h) row)).0 same in
        sym (ap answer (look_found b h name slot row valid there (probe_within b h name slot there) is named))
    named slot row there is false differs =
        let other : name ≡ name_of (strings b h) row → ⊥ = λ same. different (bytes_eq name (name_of (strings b h) row)) differs
        ((bytes_eq-Decides name (name_of (strings b h) row)).1 same) in
        sym (ap answer (look_other b h name slot row valid there (probe_within b h name slot there) is other))

    held : (slot : ℕ) → probe b h name ≡ Some slot → (row : Option Row) → row_at b h slot ≡ row → if_named (strings b h) name row
        ≡ answer (look b name)
    held slot there None is = sym (ap answer (look_blank b h name slot valid there (probe_within b h name slot there) is))
    held slot there (Some row) is = named slot row there is (bytes_eq name (name_of (strings b h) row)) refl

    led : (slot : Option ℕ) → probe b h name ≡ slot → row_led b h name slot ≡ answer (look b name)
    led None there = sym (ap answer (look_nowhere b h name valid there))
    led (Some slot) there = held slot there (row_at b h slot) refl

-- a row that was found in an image is the look-up's
pub record IsRowFound (b name : List ℕ) (result : Option Row) : Type 0 where
  pub found : result ≡ option_map (λ (found : Row × List ℕ). found.0) (look b name)
  pub sound : IfSome result (λ row. SoundRow b (head b) row)
  pub content : IfSome result (λ row. look b name ≡ Some (row, content_of (contents b (head b)) row))

pub is_found : (b : List ℕ) (h : Header) (name : List ℕ) (result : Option Row) → ValidAs b h → result ≡ row_of_name b h name
    → IsRowFound b name result
is_found b h name result valid is = go result (is ∙ row_found b h name valid)
  where
    go : (result : Option Row) → result ≡ option_map (λ (found : Row × List ℕ). found.0) (look b name) → IsRowFound b name result
    go None is = record { found = is; sound = tt; content = tt }
    go (Some row) is =
        let both = look_row b (head b) name row (head_valid b h valid) (sym is) in
        record { found = is; sound = both.0; content = both.1 }

-- Files of an index

abbrev zeros : ℕ → List ℕ
zeros n = replicate n 0

-- a front that is no longer than the file begins one
abbrev pub file_with : List ℕ → ℕ → List ℕ
file_with f size = f ++ zeros (size - length f)

pub file_begins : (f : List ℕ) (size : ℕ) → length f ≤ size → IsFileOf f size (file_with f size)
file_begins f size within =
    let more : length (zeros (size - length f)) ≡ size - length f = length-replicate (size - length f) 0 in
    let all : length (file_with f size) ≡ length f + length (zeros (size - length f)) = length-append f (zeros (size - length f)) in
    record { begins = take_at f (zeros (size - length f)) (length f) refl; length_is = omega (arith, more, all, within) }

-- and a longer one begins none
pub file_within : (f : List ℕ) (size : ℕ) (b : List ℕ) → IsFileOf f size b → length f ≤ size
file_within f size b file =
    let cut = length-take (length f) b in
    let same = ap length file.begins in
    let all = file.length_is in
    omega arith

module _ (f : List ℕ) (size : ℕ) (b : List ℕ) (h : Header) (file : IsFileOf f size b) (fits : index_length h ≤ length f) where
  same : SameIndex f b h
  same = same_index f size b h file fits

  -- a row ends its texts in the front if it does in the file
  pub same_texts_end : TextsEnd b h → TextsEnd f h
  same_texts_end ends slot row below there =
      ap (λ s. texts_end s row) same.strings ∙ ends slot row below (sym (same_row f b h same slot below) ∙ there)

  -- a name has the same row in both
  pub same_row_of_name : (name : List ℕ) → row_of_name f h name ≡ row_of_name b h name
  same_row_of_name name = ap (row_led f h name) (same_probe f b h same name) ∙ go (probe b h name) refl
    where
      go : (slot : Option ℕ) → probe b h name ≡ slot → row_led f h name slot ≡ row_led b h name slot
      go None there = refl
      go (Some slot) there =
          ap (λ s. if_named s name (row_at f h slot)) same.strings
          ∙ ap (if_named (strings b h) name) (same_row f b h same slot (probe_within b h name slot there))

  -- so many bytes stand behind the index
  pub same_size : length (contents b h) ≡ contents_size size h
  same_size = length-drop (index_length h) b ∙ ap (λ n. n - index_length h) file.length_is

  -- and a row is sound in both
  pub same_sound : (row : Row) → SoundRow b h row → SoundRowWith (strings f h) (contents_size size h) row
  same_sound row sound = subst (λ s. SoundRowWith s (contents_size size h) row) (sym same.strings)
      (subst (λ n. SoundRowWith (strings b h) n row) same_size sound)

-- An index, by which each file that begins so is valid, its contents compressed or not

module _ (c : Compression) (f : List ℕ) (size : ℕ) (h : Header) (read : header_of f ≡ Ok h)
    (valid : (b : List ℕ) → IsFileOf f size b → SoundAs c b h) where
  -- the texts of its rows end in its strings, if there is such a file
  texts_end_by : (b : List ℕ) → IsFileOf f size b → TextsEnd f h
  texts_end_by b file = same_texts_end f size b h file (header_fits f h read) (texts_of_valid c b h (valid b file))

  pub front_texts_end : length f ≤ size → TextsEnd f h
  front_texts_end within = texts_end_by (file_with f size) (file_begins f size within)

  -- and its entries are listed as each file's
  pub listed_same : (b : List ℕ) → IsFileOf f size b → listed_from f h 0 ≡ map listed (entries_of b)
  listed_same b file =
      let all : h.length - 0 ≡ h.length = omega arith in
      let index = same_index f size b h file (header_fits f h read) in
      ap (λ (n : ℕ). map listed (entries_in f h (range_with_len 0 n))) all
      ∙ by_index (entries f h) ∙ ap (map listed_by) (same_entries f b h index) ∙ sym (by_index (entries b h))
      ∙ ap (λ r. map listed (entries_with b r)) (sym (valid b file).header)
    where
      listed_by : ℕ × Row × List ℕ → ℕ × List ℕ × Row
      listed_by x = (x.0, x.2, x.1)

      by_index : (es : List Entry) → map listed es ≡ map listed_by (map indexed es)
      by_index [] = refl
      by_index (e ∷ es) = ap (λ rest. listed e ∷ rest) (by_index es)

-- With no content compressed

module _ (f : List ℕ) (size : ℕ) (h : Header) (read : header_of f ≡ Ok h) (valid : (b : List ℕ) → IsFileOf f size b → ValidAs b h) where
  -- a row that it says of a name is the look-up's in each file
  pub front_found : (name : List ℕ) (result : Option Row) → result ≡ row_of_name f h name → (b : List ℕ) → IsFileOf f size b
      → IsRowFound b name result
  front_found name result is b file =
      is_found b h name result (valid b file) (is ∙ same_row_of_name f size b h file (header_fits f h read) name)

  -- and sound
  pub front_sound : (name : List ℕ) (result : Option Row) → length f ≤ size → result ≡ row_of_name f h name
      → IfSome result (SoundIn (record { bytes = f; length = size }))
  front_sound name result within is = go result (front_found name result is b file).sound
    where
      b : List ℕ
      b = file_with f size

      file : IsFileOf f size b
      file = file_begins f size within

      go : (result : Option Row) → IfSome result (λ row. SoundRow b (head b) row)
          → IfSome result (SoundIn (record { bytes = f; length = size }))
      go None sound = tt
      go (Some row) sound = subst (λ g. SoundRowWith (strings f g) (contents_size size g) row) (sym (head_is f h read))
          (same_sound f size b h file (header_fits f h read) row
          (subst (λ g. SoundRow b g row) (head_is b h (valid b file).header) sound))

-- The index that an image is

-- it begins with itself
pub own_file : (front : Front) (b : List ℕ) → front.bytes ≡ b → front.length ≡ length b → IsFileOf front.bytes front.length b
own_file front b bytes size = subst (λ l. IsFileOf l front.length b) (sym bytes) (subst (λ n. IsFileOf b n b) (sym size) (whole_file b))

own_size : (front : Front) (b : List ℕ) → front.bytes ≡ b → front.length ≡ length b → contents_size front.length (head front.bytes)
    ≡ length (contents b (head b))
own_size front b bytes size =
    ap (λ l. contents_size front.length (head l)) bytes ∙ ap (λ n. contents_size n (head b)) size
    ∙ sym (length-drop (index_length (head b)) b)

-- a row that is sound in the image is in the index, and back
pub sound_in : (front : Front) (b : List ℕ) (row : Row) → front.bytes ≡ b → front.length ≡ length b → SoundRow b (head b) row
    → SoundIn front row
sound_in front b row bytes size sound =
    subst (λ l. SoundRowWith (strings l (head l)) (contents_size front.length (head front.bytes)) row) (sym bytes)
    (subst (λ n. SoundRowWith (strings b (head b)) n row) (sym (own_size front b bytes size)) sound)

pub sound_of : (front : Front) (b : List ℕ) (row : Row) → front.bytes ≡ b → front.length ≡ length b → SoundIn front row
    → SoundRow b (head b) row
sound_of front b row bytes size sound =
    subst (λ n. SoundRowWith (strings b (head b)) n row) (own_size front b bytes size)
    (subst (λ l. SoundRowWith (strings l (head l)) (contents_size front.length (head front.bytes)) row) bytes sound)

-- an image's entries are those that are listed
pub relisted : (b : List ℕ) → map (entry_listed b) (map listed (entries_of b)) ≡ entries_of b
relisted b = go (header_of b) refl
  where
    as_listed : (h : Header) → header_of b ≡ Ok h → (e : Entry) → Contains (entries b h) e → entry_listed b (listed e) ≡ e
    as_listed h read e there =
        let own = ap (λ (f : Entry). f.content) (entry_from b h e there).is in
        ap (λ c. record { slot = e.slot; row = e.row; name = e.name; content = c }) (ap (λ g. content_of (contents b g) e.row)
        (head_is b h read) ∙ sym own)

    fixed : Entry → Type 0
    fixed e = entry_listed b (listed e) ≡ e

    each : (es : List Entry) → All fixed es → map (entry_listed b) (map listed es) ≡ es
    each [] all = refl
    each (e ∷ es) all =
        ap (λ f. f ∷ map (entry_listed b) (map listed es)) (All-head fixed e es all)
        ∙ ap (λ fs. e ∷ fs) (each es (All-tail fixed e es all))

    go : (r : Result Header HeaderFault) → header_of b ≡ r → map (entry_listed b) (map listed (entries_with b r)) ≡ entries_with b r
    go (Err fault) read = refl
    go (Ok h) read = each (entries b h) (all_from_contains fixed (entries b h) (as_listed h read))

-- Rows that were read of a slot

-- a row of a slot is sound
pub held_sound : {A : Type 0} (b : List ℕ) (h : Header) (slot : ℕ) (held : Option (Row × A)) → ValidAs b h → slot < h.length
    → IfSome held (λ held. row_at b h slot ≡ Some held.0) → IfSome held (λ held. SoundRow b (head b) held.0)
held_sound b h slot None valid below there = tt
held_sound b h slot (Some held) valid below there =
    subst (λ g. SoundRow b g held.0) (sym (head_is b h valid.header)) (sound_row b h slot held.0 (valid.slots slot below) there)

-- a row of a slot of an index is sound in its files, as it is judged
pub listed_sound : (c : Compression) (f : List ℕ) (size : ℕ) (h : Header) (slot : ℕ) (row : Row) → IsIndexBy c f size h
    → slot < h.length → row_at f h slot ≡ Some row → SoundIn (record { bytes = f; length = size }) (judged c row)
listed_sound c f size h slot row index below there =
    let b = file_with f size in
    let file = file_begins f size index.within in
    let fits = header_fits f h index.header in
    let valid = index.valid b file in
    let own = sym (same_row f b h (same_index f size b h file fits) slot below) ∙ there in
    subst (λ g. SoundRowWith (strings f g) (contents_size size g) (judged c row)) (sym (head_is f h index.header))
    (same_sound f size b h file fits (judged c row) (sound_row_with c b h (length (contents b h)) slot row (valid.slots slot below) own))

-- Contents

-- so many bytes of contents in which a row's content lies
pub lies_within : (f : List ℕ) (size : ℕ) (h : Header) (row : Row) → header_of f ≡ Ok h → SoundIn (record { bytes = f; length = size }) row
    → row.offset + row.size ≤ size - index_length h
lies_within f size h row read sound =
    (subst (λ g. SoundRowWith (strings f g) (contents_size size g) row) (head_is f h read) sound).within
