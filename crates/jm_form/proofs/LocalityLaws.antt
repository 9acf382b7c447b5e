-- What an image says of names, places and sizes stands in its index, and what is checked of its
-- contents is only how many bytes they are: so a front with the index says all of it.
use Rattle.std.proofs.Common.{◌≡◌, ℕ, zero, suc, ◌+◌, ◌-◌, ◌%◌, ◌<◌, ◌≤◌, ◌⊎◌, inl, inr, ◌==◌, not, Bool}
use Rattle.std.proofs.Common.{true, false, cond, List, [], ◌∷◌, ◌++◌, length, map, filter, take, drop, Option}
use Rattle.std.proofs.Common.{Some, None, is_none, option_map, Result, Ok, Err, unwrap_or, refl, sym, ap, ◌∙◌}
use Rattle.std.proofs.Common.{subst, arith, length-drop}
use Rattle.std.proofs.Math.Nat.{le_refl, mod-lt}
use Rattle.std.proofs.lemmas.Bool.{eqb-false}
use Rattle.std.proofs.lemmas.List.{drop-take, length-map, take-take, take_all}
use Rattle.std.specs.List.{cons_option, filter_map, range_with_len}
use Rattle.std.specs.Prelude.{nat_lt}
use Rattle.byteorder.specs.Numbers.{big_from-take, little_from-take}
use Rattle.jm_bytes.specs.Checks.{fault_if, first_fault, unless_fault}
use Rattle.jm_bytes.specs.Word.{word}
use Rattle.jm_bytes.specs.declared.words.Order.{Order}
use Rattle.jm_bytes.specs.declared.words.Order.TheVariants.{Little, Big}
use Rattle.jm_form.specs.declared.container.Header.{Header}
use Rattle.jm_form.specs.declared.container.HeaderFault.{HeaderFault}
use Rattle.jm_form.specs.declared.container.HeaderFault.TheVariants as fault
use Rattle.jm_form.specs.declared.damage.Damage.{Damage}
use Rattle.jm_form.specs.declared.damage.Damage.TheVariants as damage
use Rattle.jm_form.specs.declared.ranges.Range.{Range}
use Rattle.jm_form.specs.declared.rows.Compression.{Compression}
use Rattle.jm_form.specs.declared.rows.Row.{Row}
use Rattle.jm_form.specs.declared.slots.SlotRow.TheVariants as slot_row
use Rattle.jm_form.specs.declared.table.Redirect.TheVariants as redirect
use Rattle.jm_form.specs.ComputedOverlap.{first_overlap}
use Rattle.jm_form.specs.ComputedRows.{row_front}
use Rattle.jm_form.specs.Damages.{damage_by, damage_with, entries_checks, entry_checks, front_damage}
use Rattle.jm_form.specs.Damages.{front_damage_with, image_checks, slot_fault_with, slot_faults}
use Rattle.jm_form.specs.Entries.{Entry, entries, entry_at, entry_of, indexed, is_reached, name_of, row_at}
use Rattle.jm_form.specs.Entries.{row_at_place, row_of_slot, row_read, row_text, spelled_row}
use Rattle.jm_form.specs.Head.{HoldsHead, HoldsIndex, IsFileOf, fields_in, fields_of, header_of, header_with}
use Rattle.jm_form.specs.Head.{index_length, order_of, read_order, version_of}
use Rattle.jm_form.specs.Overlap.{range_by, ranges_by}
use Rattle.jm_form.specs.Places.{contents, contents_size, locations, locations_place, offset_place}
use Rattle.jm_form.specs.Places.{offset_word, redirect_place, redirect_word, strings, strings_place}
use Rattle.jm_form.specs.Rows.{judged}
use Rattle.jm_form.specs.Table.{is_slot, probe, redirect_at, redirect_of, slot_of}
use Rattle.jm_form.specs.Validity.{SoundAs}
use Rattle.jm_form.proofs.HeadLaws.{head_read, header_fits, read_head}
use Rattle.jm_form.proofs.Validity.{body_valid}

-- A front

pub from_front : (b : List ℕ) (n at : ℕ) → at ≤ n → drop at (take n b) ≡ take (n - at) (drop at b)
from_front b n at within =
    let whole : n ≡ at + (n - at) = omega arith in
    ap (λ k. drop at (take k b)) whole ∙ drop-take at (n - at) b

-- a section within the front
pub section_in_front : (b : List ℕ) (n at size : ℕ) → at + size ≤ n → take size (drop at (take n b)) ≡ take size (drop at b)
section_in_front b n at size within = ap (take size) (from_front b n at (omega arith)) ∙ take-take size (n - at) (drop at b) (omega arith)

-- a word within the front
pub word_in_front : (order : Order) (b : List ℕ) (n at : ℕ) → at + 4 ≤ n → word order (take n b) at ≡ word order b at
word_in_front Little b n at within = ap (λ l. word Little l 0) (from_front b n at (omega arith)) ∙ little_from-take 0 4 (n - at)
    (drop at b) (omega arith)
word_in_front Big b n at within = ap (λ l. word Big l 0) (from_front b n at (omega arith)) ∙ big_from-take 0 4 (n - at) (drop at b)
    (omega arith)

-- The header

order_in_front : (b : List ℕ) (n : ℕ) → 28 ≤ n → order_of (take n b) ≡ order_of b
order_in_front b n long = rw (word_in_front Little b n 0 (omega arith), word_in_front Big b n 0 (omega arith)) refl

fields_in_front : (order : Order) (b : List ℕ) (n : ℕ) → 28 ≤ n → fields_in order (take n b) ≡ fields_in order b
fields_in_front order b n long = rw (
  word_in_front order b n 8 (omega arith),
  word_in_front order b n 12 (omega arith),
  word_in_front order b n 16 (omega arith),
  word_in_front order b n 20 (omega arith),
  word_in_front order b n 24 (omega arith),
) refl

-- the header over what is read of the bytes
abbrev header_by : ℕ → Option Order → ℕ → Header → Result Header HeaderFault
header_by size order version fields =
    unless_fault
    (first_fault (
    fault_if (nat_lt size 28) fault.Short
    ∷ fault_if (is_none order) fault.Magic
    ∷ fault_if (not (version == 0x00010000)) (fault.Version version)
    ∷ fault_if (nat_lt size (index_length fields)) fault.Sizes
    ∷ []
    ))
    fields

header_in_front : (b : List ℕ) (n size : ℕ) → 28 ≤ n → header_with (take n b) size ≡ header_with b size
header_in_front b n size long =
    let f : List ℕ = take n b in
    let order : order_of f ≡ order_of b = order_in_front b n long in
    let version : version_of f ≡ version_of b = ap (λ o. word (unwrap_or o Little) f 4) order ∙ word_in_front (read_order b) b n 4
    (omega arith) in
    let fields : fields_of f ≡ fields_of b = ap (λ o. fields_in (unwrap_or o Little) f) order ∙ fields_in_front (read_order b) b n long in
    ap (λ o. header_by size o (version_of f) (fields_of f)) order
    ∙ ap (λ v. header_by size (order_of b) v (fields_of f)) version
    ∙ ap (header_by size (order_of b) (version_of b)) fields

-- the header and its faults are those of each file that begins with 28 bytes of it or all of it
pub header_same : (f : List ℕ) (size : ℕ) (b : List ℕ) → IsFileOf f size b → HoldsHead f size → header_with f size ≡ header_of b
header_same f size b file holds =
    elim (cases size) [
      | inl long ↦ ap (λ l. header_with l size) (sym file.begins) ∙ header_in_front b (length f) size (omega (arith, holds))
          ∙ ap (header_with b) (sym file.length_is)
      | inr short ↦ ap (λ l. header_with l size) (sym file.begins ∙ take_all (length f) b (omega (arith, holds, file.length_is)))
          ∙ ap (header_with b) (sym file.length_is)
    ]
  where
    cases : (size : ℕ) → (28 ≤ size) ⊎ (size < 28)
    cases size = grind arith

-- a front with the index has its header, read as a file of its own
pub header_of_front : (f : List ℕ) (size : ℕ) (h : Header) → header_with f size ≡ Ok h → index_length h ≤ length f → header_of f ≡ Ok h
header_of_front f size h e fits =
    let read = head_read f size h e in
    read_head f (length f) h (record { magic = read.magic; version = read.version; fields = read.fields; fits = fits })

-- Bytes with one index

-- the words, locations and strings of both are the same
pub record SameIndex (f b : List ℕ) (h : Header) : Type 0 where
  pub redirects : (bucket : ℕ) → bucket < h.length → redirect_word f h bucket ≡ redirect_word b h bucket
  pub offsets : (i : ℕ) → i < h.length → offset_word f h i ≡ offset_word b h i
  pub locations : locations f h ≡ locations b h
  pub strings : strings f h ≡ strings b h

index_in_front : (b : List ℕ) (n : ℕ) (h : Header) → index_length h ≤ n → SameIndex (take n b) b h
index_in_front b n h within = record {
  redirects = λ bucket below. word_in_front h.order b n (redirect_place bucket) (omega arith);
  offsets = λ i below. word_in_front h.order b n (offset_place h i) (omega arith);
  locations = section_in_front b n (locations_place h) h.locations (omega arith);
  strings = section_in_front b n (strings_place h) h.strings (omega arith);
}

-- a front with the index has the index of each file that begins so
pub same_index : (f : List ℕ) (size : ℕ) (b : List ℕ) (h : Header) → IsFileOf f size b → index_length h ≤ length f → SameIndex f b h
same_index f size b h file within = subst (λ (l : List ℕ). SameIndex l b h) file.begins (index_in_front b (length f) h within)

module _ (f b : List ℕ) (h : Header) (same : SameIndex f b h) where
  -- The table

  -- what it says of a hash
  pub same_redirect : (hash : ℕ) → redirect_at f h hash ≡ redirect_at b h hash
  same_redirect hash = go (h.length == 0) refl
    where
      positive : (n : ℕ) → (n ≡ 0 → ⊥) → 0 < n
      positive zero none = absurd (none refl)
      positive (suc n) some = omega arith

      go : (t : Bool) → h.length == 0 ≡ t → cond t redirect.Nowhere (redirect_of (redirect_word f h (hash % h.length)))
          ≡ cond t redirect.Nowhere (redirect_of (redirect_word b h (hash % h.length)))
      go true e = refl
      go false e =
          let some : 0 < h.length = positive h.length (eqb-false h.length 0 e) in
          ap redirect_of (same.redirects (hash % h.length) (mod-lt hash some))

  -- the slot to which it leads a name
  pub same_probe : (name : List ℕ) → probe f h name ≡ probe b h name
  same_probe name = ap (slot_of h.length name) (same_redirect _)

  -- Rows

  -- what stands at a place of the locations
  pub same_row_at_place : (place : ℕ) → row_at_place f h place ≡ row_at_place b h place
  same_row_at_place place = ap (λ l. cond (nat_lt place h.locations) (row_read (row_front (drop place l))) slot_row.Outside) same.locations

  pub same_row_text : (i : ℕ) → i < h.length → row_text f h i ≡ row_text b h i
  same_row_text i below = ap (λ w. drop w (locations f h)) (same.offsets i below) ∙ ap (drop (offset_word b h i)) same.locations

  pub same_row_of_slot : (i : ℕ) → i < h.length → row_of_slot f h i ≡ row_of_slot b h i
  same_row_of_slot i below = ap (row_at_place f h) (same.offsets i below) ∙ same_row_at_place (offset_word b h i)

  pub same_row : (i : ℕ) → i < h.length → row_at f h i ≡ row_at b h i
  same_row i below = ap spelled_row (same_row_of_slot i below)

  -- Slots, with contents of so many bytes

  pub same_slot_fault : (c : Compression) (size i : ℕ) → i < h.length → slot_fault_with c f h size i ≡ slot_fault_with c b h size i
  same_slot_fault c size i below =
      ap (λ w. fault_by w (row_text f h i) (strings f h) (row_at f h i)) (same.offsets i below)
      ∙ ap (λ t. fault_by (offset_word b h i) t (strings f h) (row_at f h i)) (same_row_text i below)
      ∙ ap (λ s. fault_by (offset_word b h i) (row_text b h i) s (row_at f h i)) same.strings
      ∙ ap (fault_by (offset_word b h i) (row_text b h i) (strings b h)) (same_row i below)
    where
      fault_by : ℕ → List ℕ → List ℕ → Option Row → Option Damage
      fault_by w text section row =
          first_fault (
          fault_if (not (nat_lt w h.locations)) (damage.Offset i)
          ∷ fault_if (is_none (row_front text)) (damage.Row i)
          ∷ entry_checks c i section size row
          )

  faults_between : (c : Compression) (size i n : ℕ) → i + n ≤ h.length → map (slot_fault_with c f h size) (range_with_len i n)
      ≡ map (slot_fault_with c b h size) (range_with_len i n)
  faults_between c size i zero within = refl
  faults_between c size i (suc n) within =
      ap (λ o. o ∷ map (slot_fault_with c f h size) (range_with_len (i + 1) n)) (same_slot_fault c size i (omega arith))
      ∙ ap (λ os. slot_fault_with c b h size i ∷ os) (faults_between c size (i + 1) n (omega arith))

  pub same_slot_faults : (c : Compression) (size : ℕ) → slot_faults c f h size ≡ slot_faults c b h size
  same_slot_faults c size = faults_between c size 0 h.length (omega arith)

  -- Entries

  -- a row is the same entry of both, but for the content
  same_entry_of : (i : ℕ) (row : Row) → indexed (entry_of f h i row) ≡ indexed (entry_of b h i row)
  same_entry_of i row = ap (λ s. (i, row, name_of s row)) same.strings

  -- and reached in both or in neither
  pub same_reached : (i : ℕ) (row : Row) → is_reached f h (entry_of f h i row) ≡ is_reached b h (entry_of b h i row)
  same_reached i row = ap (is_slot i) (same_probe (name_of (strings f h) row) ∙ ap (λ s. probe b h (name_of s row)) same.strings)

  entries_between : (i n : ℕ) → i + n ≤ h.length
      → map indexed (filter (is_reached f h) (filter_map (entry_at f h) (range_with_len i n)))
      ≡ map indexed (filter (is_reached b h) (filter_map (entry_at b h) (range_with_len i n)))
  entries_between i zero within = refl
  entries_between i (suc n) within =
      one_more i (row_at f h i) (filter_map (entry_at f h) (range_with_len (i + 1) n)) (filter_map (entry_at b h)
      (range_with_len (i + 1) n)) (entries_between (i + 1) n (omega arith))
      ∙ ap (λ o. map indexed (filter (is_reached b h) (cons_option (option_map (entry_of b h i) o) (filter_map (entry_at b h)
      (range_with_len (i + 1) n))))) (same_row i (omega arith))
    where
      kept : (s t : Bool) (e d : Entry) (es ds : List Entry) → s ≡ t → indexed e ≡ indexed d → map indexed es ≡ map indexed ds
          → map indexed (cond s (e ∷ es) es) ≡ map indexed (cond t (d ∷ ds) ds)
      kept true true e d es ds both here later = ap (λ x. x ∷ map indexed es) here ∙ ap (λ xs. indexed d ∷ xs) later
      kept false false e d es ds both here later = later
      kept true false e d es ds both here later = cc
      kept false true e d es ds both here later = cc

      one_more : (i : ℕ) (o : Option Row) (es ds : List Entry) → map indexed (filter (is_reached f h) es)
          ≡ map indexed (filter (is_reached b h) ds)
          → map indexed (filter (is_reached f h) (cons_option (option_map (entry_of f h i) o) es))
          ≡ map indexed (filter (is_reached b h) (cons_option (option_map (entry_of b h i) o) ds))
      one_more i None es ds later = later
      one_more i (Some row) es ds later =
          kept (is_reached f h (entry_of f h i row)) (is_reached b h (entry_of b h i row)) (entry_of f h i row) (entry_of b h i row)
          (filter (is_reached f h) es) (filter (is_reached b h) ds) (same_reached i row) (same_entry_of i row) later

  -- the entries have the same slots, rows and names
  pub same_entries : map indexed (entries f h) ≡ map indexed (entries b h)
  same_entries = entries_between 0 h.length (omega arith)

  -- there are as many
  pub same_count : length (entries f h) ≡ length (entries b h)
  same_count = sym (length-map (entries f h) indexed) ∙ ap length same_entries ∙ length-map (entries b h) indexed

  -- and their contents stand at the same places
  pub same_ranges : (c : Compression) → ranges_by c (entries f h) ≡ ranges_by c (entries b h)
  same_ranges c = by_index (entries f h) ∙ ap (map row_range) same_entries ∙ sym (by_index (entries b h))
    where
      row_range : ℕ × Row × List ℕ → Range
      row_range x = record {
        start = (judged c x.1).offset;
        slot = x.0;
        end = (judged c x.1).offset + (judged c x.1).size;
      }

      by_index : (es : List Entry) → ranges_by c es ≡ map row_range (map indexed es)
      by_index [] = refl
      by_index (e ∷ es) = ap (λ rs. range_by c e ∷ rs) (by_index es)

  -- Images

  -- so the checks of both find the same, with contents of so many bytes
  pub same_checks : (c : Compression) (size : ℕ) → image_checks c f h size ≡ image_checks c b h size
  same_checks c size =
      ap (λ os. os ++ entries_checks c h.count (entries f h)) (same_slot_faults c size)
      ∙ ap (λ n. slot_faults c b h size ++ checks_by n (ranges_by c (entries f h))) same_count
      ∙ ap (λ rs. slot_faults c b h size ++ checks_by (length (entries b h)) rs) (same_ranges c)
    where
      checks_by : ℕ → List Range → List (Option Damage)
      checks_by n rs = fault_if (not (h.count == n)) (damage.Count h.count n) ∷ option_map (λ o. damage.Overlap o.0 o.1)
          (first_overlap rs) ∷ []

-- the checks of a front with the index, with the size of the file's contents, are those of the file
pub checks_same : (c : Compression) (f : List ℕ) (size : ℕ) (b : List ℕ) (h : Header) → IsFileOf f size b → index_length h ≤ length f
    → image_checks c f h (contents_size size h) ≡ image_checks c b h (length (contents b h))
checks_same c f size b h file within =
    let behind : length (contents b h) ≡ contents_size size h = length-drop (index_length h) b
    ∙ ap (λ n. n - index_length h) file.length_is in
    same_checks f b h (same_index f size b h file within) c (contents_size size h) ∙ ap (image_checks c b h) (sym behind)

-- the damage that a front with the index tells is that of each file that begins so
pub damage_same : (c : Compression) (f : List ℕ) (size : ℕ) (b : List ℕ) → IsFileOf f size b → HoldsIndex f size
    → front_damage c f size ≡ damage_by c b
damage_same c f size b file holds = go (header_with f size) refl ∙ ap (damage_with c b) (header_same f size b file holds.head)
  where
    go : (r : Result Header HeaderFault) → header_with f size ≡ r → front_damage_with c f size r ≡ damage_with c b r
    go (Ok h) e = ap first_fault (checks_same c f size b h file (holds.index h e))
    go (Err found) e = refl

-- a front with the index in which nothing is wrong begins valid files
pub front_valid : (c : Compression) (f : List ℕ) (size : ℕ) (b : List ℕ) (h : Header) → IsFileOf f size b → HoldsIndex f size
    → header_with f size ≡ Ok h → front_damage c f size ≡ None → SoundAs c b h
front_valid c f size b h file holds header clear =
    let read = sym (header_same f size b file holds.head) ∙ header in
    body_valid c b h read (sym (ap (damage_with c b) read) ∙ (sym (damage_same c f size b file holds) ∙ clear))

-- The whole file

-- it begins with itself, and holds its index
pub whole_file : (b : List ℕ) → IsFileOf b (length b) b
whole_file b = record { begins = take_all (length b) b (le_refl (length b)); length_is = refl }

pub whole_index : (b : List ℕ) → HoldsIndex b (length b)
whole_index b = record { within = le_refl (length b); head = omega arith; index = λ h e. header_fits b h e }
