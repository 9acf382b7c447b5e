-- A written image is valid, and its entries are those that were written.
use Rattle.std.proofs.Common.{◌≡◌, ◌≢◌, ℕ, ◌+◌, ◌-◌, ◌<◌, ◌≤◌, ◌&&◌, ◌==◌, inl, inr, Bool, true, not, List}
use Rattle.std.proofs.Common.{[], ◌∷◌, length, map, get_or, Option, Some, None, option_map, IsPermutation}
use Rattle.std.proofs.Common.{AllPairs, Contains, refl, sym, ap, ◌∙◌, subst, arith}
use Rattle.std.proofs.lemmas.Bool.{and_from, cases_order, eq-eqb, le-leb}
use Rattle.std.proofs.lemmas.List.{get_or_default, length-map}
use Rattle.std.proofs.lemmas.List.Elements.{Contains-get_or}
use Rattle.std.proofs.lemmas.List.Sorted.{length_permutation}
use Rattle.std.specs.Prelude.{nat_le}
use Rattle.jm_bytes.proofs.CheckLaws.{fault_if_false, no_fault_cons}
use Rattle.jm_bytes.proofs.Choice.{same_some}
use Rattle.jm_bytes.proofs.Members.{contains_map, from_map}
use Rattle.jm_bytes.proofs.Pairs.{pairs_among, pairs_map}
use Rattle.jm_bytes.specs.Checks.{fault_if, first_fault}
use Rattle.jm_bytes.specs.declared.words.Order.{Order}
use Rattle.jm_form.specs.Strings.{section_of}
use Rattle.jm_form.specs.declared.container.Header.{Header}
use Rattle.jm_form.specs.declared.damage.Damage.{Damage}
use Rattle.jm_form.specs.declared.damage.Damage.TheVariants as damage
use Rattle.jm_form.specs.declared.rows.Row.{Row}
use Rattle.jm_form.specs.Damages.{content_fits, row_checks, slot_fault}
use Rattle.jm_form.specs.Entries.{Entry, entries, entry_of}
use Rattle.jm_form.specs.Greedy.{GreedyTable}
use Rattle.jm_form.specs.Layout.{Index, Written, contents_text, image_of, index_of, row_in, row_place, sized}
use Rattle.jm_form.specs.Overlap.{Apart, Meets, range_of, ranges_of}
use Rattle.jm_form.specs.Places.{contents, offset_word, strings}
use Rattle.jm_form.specs.Table.{probe}
use Rattle.jm_form.specs.Texts.{text_ends}
use Rattle.jm_form.specs.Validity.{SoundRow, SoundSlots, Valid, ValidAs, look}
use Rattle.jm_form.proofs.EntryLaws.{names_differ, slots_rise}
use Rattle.jm_form.proofs.LookLaws.{look_entry, look_none, look_some}
use Rattle.jm_form.proofs.SlotLaws.{slot_blank, slot_spelled}
use Rattle.jm_writer.specs.Writable.{Writable, header_with}
use Rattle.jm_writer.proofs.ImageEntries.{content_is, entry_is_there, entry_is_written, index_is_fit}
use Rattle.jm_writer.proofs.ImageEntries.{name_leads, length-slots, length-written, name_is, nothing, row_for}
use Rattle.jm_writer.proofs.ImageEntries.{slot_below_length, slot_row_is, pieces_told}
use Rattle.jm_writer.proofs.ImageLists.{lookup_from, same_elements}
use Rattle.jm_writer.proofs.ImageRows.{content_within, contents_apart, slot_spare}
use Rattle.jm_writer.proofs.ImageSections.{contents_are, header_is, offset_word_is, strings_are}

-- A sound row has no fault

fits_from : (offset size all : ℕ) → offset + size ≤ all → nat_le size all && nat_le offset (all - size) ≡ true
fits_from offset size all within = and_from (nat_le size all) (nat_le offset (all - size)) (le-leb size all (omega arith))
    (le-leb offset (all - size) (omega arith))

-- a check whose test holds finds nothing
passed : (test : Bool) (fault : Damage) (later : List (Option Damage)) → test ≡ true → first_fault later ≡ None
    → first_fault (fault_if (not test) fault ∷ later) ≡ None
passed test fault later holds clear = no_fault_cons (fault_if (not test) fault) later (fault_if_false (not test) fault (ap not holds)) clear

pub sound_row_checks : (b : List ℕ) (h : Header) (i : ℕ) (row : Row) → SoundRow b h row
    → first_fault (row_checks i (strings b h) (length (contents b h)) row) ≡ None
sound_row_checks b h i row sound =
    let s : List ℕ = strings b h in
    let all : ℕ = length (contents b h) in
    let range = fault_if (not (content_fits row all)) (damage.Range i) in
    let ext = fault_if (not (text_ends s row.ext)) (damage.Text i 4) in
    let base = fault_if (not (text_ends s row.base)) (damage.Text i 3) in
    let parent = fault_if (not (text_ends s row.parent)) (damage.Text i 2) in
    let first = fault_if (not (text_ends s row.«module»)) (damage.Text i 1) in
    passed (row.packed == 0) (damage.Compressed i) (first ∷ parent ∷ base ∷ ext ∷ range ∷ []) (eq-eqb row.packed 0 sound.stored)
    (passed (text_ends s row.«module») (damage.Text i 1) (parent ∷ base ∷ ext ∷ range ∷ []) sound.module_ends
    (passed (text_ends s row.parent) (damage.Text i 2) (base ∷ ext ∷ range ∷ []) sound.parent_ends
    (passed (text_ends s row.base) (damage.Text i 3) (ext ∷ range ∷ []) sound.base_ends
    (passed (text_ends s row.ext) (damage.Text i 4) (range ∷ []) sound.ext_ends
    (passed (content_fits row all) (damage.Range i) [] (fits_from row.offset row.size all sound.within) refl)))))

-- A written image

abbrev pub pair_of : Entry → Written
pair_of e = (e.name, e.content)

module _ (order : Order) (table : GreedyTable) (es : List Written) (writable : Writable order table es) where
  abbrev index : Index
  index = index_of order table (map sized es)

  abbrev b : List ℕ
  b = image_of order table es

  abbrev h : Header
  h = header_with index

  abbrev slot : ℕ → ℕ
  slot k = get_or table.slots k 0

  abbrev entry : ℕ → Entry
  entry k = entry_of b h (slot k) (row_for es k)

  pair_is : (k : ℕ) → k < length es → ◌≡◌ {A = Written} (pair_of (entry k)) (get_or es k nothing)
  pair_is k below =
      let names : (entry k).name ≡ (get_or es k nothing).0 = name_is order table es writable k below in
      let contents : (entry k).content ≡ (get_or es k nothing).1 = content_is order table es writable k below in
      let first : ◌≡◌ {A = Written} ((entry k).name, (entry k).content) ((get_or es k nothing).0, (entry k).content) =
      ap (λ n. (n, (entry k).content)) names in
      let second : ◌≡◌ {A = Written} ((get_or es k nothing).0, (entry k).content) ((get_or es k nothing).0, (get_or es k nothing).1)
      = ap (λ c. ((get_or es k nothing).0, c)) contents in
      first ∙ second

  -- an entry that was written
  pub written_there : (p : Written) → Contains es p → (e : Entry) × Contains (entries b h) e × (pair_of e ≡ p)
  written_there p (k, below, is) = (
    entry k,
    entry_is_there order table es writable k below,
    pair_is k below
        ∙ get_or_default es k nothing p below ∙ is,
  )

  -- an entry of the image
  pub there_written : (e : Entry) → Contains (entries b h) e → Contains es (pair_of e)
  there_written e there =
      let (k, below, is) = entry_is_written order table es writable e there in
      subst (Contains es) (sym (ap pair_of is ∙ pair_is k below)) (Contains-get_or es k nothing below)

  -- each once

  pub entries_differ : AllPairs (λ p q. p ≢ q) (map pair_of (entries b h))
  entries_differ = pairs_map (λ p q. p ≢ q) pair_of (entries b h) (pairs_among (λ e f. e.slot < f.slot) (λ e f. pair_of e ≢ pair_of
      f) (entries b h) differs (slots_rise b h))
    where
      differs : (e f : Entry) → Contains (entries b h) e → Contains (entries b h) f → e.slot < f.slot → pair_of e ≢ pair_of f
      differs e f first second before same =
          let slots = names_differ b h e f first second (ap (λ (p : Written). p.0) same) in absurd (omega arith)

  -- names differ, since no two of them have one slot
  pub names_apart : (i j : ℕ) → i < j → j < length es → (get_or es i nothing).0 ≢ (get_or es j nothing).0
  names_apart i j before below same =
      let many = length-slots order table es writable in
      let slots : slot i ≡ slot j = same_some (slot i) (slot j) (sym (name_leads order table es writable i (omega arith))
      ∙ ap (probe b h) same ∙ name_leads order table es writable j below) in
      writable.serves.apart i j 0 before (omega arith) slots

  pub written_differ : AllPairs (λ p q. p ≢ q) es
  written_differ i j d before below same =
      let one : get_or es i d ≡ get_or es i nothing = get_or_default es i d nothing (omega arith) in
      let other : get_or es j d ≡ get_or es j nothing = get_or_default es j d nothing below in
      names_apart i j before below (ap (λ (p : Written). p.0) (sym one ∙ same ∙ other))

  -- the entries, with their contents, are those that were written
  pub image_entries : IsPermutation (map pair_of (entries b h)) es
  image_entries = same_elements (map pair_of (entries b h)) es entries_differ written_differ forth back
    where
      forth : (p : Written) → Contains (map pair_of (entries b h)) p → Contains es p
      forth p there = let from = from_map pair_of (entries b h) p there in subst (Contains es) from.2 (there_written from.0 from.1)

      back : (p : Written) → Contains es p → Contains (map pair_of (entries b h)) p
      back p there =
          let from = written_there p there in
          subst (Contains (map pair_of (entries b h))) from.2 (contains_map pair_of (entries b h) from.0 from.1)

  pub length-entries : length (entries b h) ≡ length es
  length-entries =
      let same = length_permutation (map pair_of (entries b h)) es image_entries in
      let mapped = length-map (entries b h) pair_of in
      omega arith

  -- the offset word of an entry
  pub offset_word_of : (k : ℕ) → k < length es → offset_word b h (slot k) ≡ row_place index (slot k)
  offset_word_of k below = offset_word_is index (index_is_fit order table es writable) (contents_text es) (slot k)
      (slot_below_length order table es writable k below)

  -- Validity

  sound : (k : ℕ) → k < length es → SoundRow b h (row_for es k)
  sound k below =
      let section = strings_are index (index_is_fit order table es writable) (contents_text es) in
      let texts = pieces_told order table es writable k below in
      let ends : (place : ℕ) → text_ends (section_of index.texts) place ≡ true → text_ends (strings b h) place ≡ true =
      λ place there. ap (λ s. text_ends s place) section ∙ there in
      let all = ap length (contents_are index (index_is_fit order table es writable) (contents_text es)) in
      let inside = content_within es k nothing below in
      record {
        stored = refl;
        module_ends = ends (row_for es k).«module» texts.«module».ends;
        parent_ends = ends (row_for es k).parent texts.parent.ends;
        base_ends = ends (row_for es k).base texts.base.ends;
        ext_ends = ends (row_for es k).ext texts.ext.ends;
        within = omega arith;
      }

  slots_are_sound : SoundSlots b h
  slots_are_sound i below = go (row_in index i) refl
    where
      go : (o : Option Row) → row_in index i ≡ o → slot_fault b h i ≡ None
      go None none = slot_blank b h i (slot_spare index (index_is_fit order table es writable) (contents_text es) i below none)
      go (Some row) is =
          let at = lookup_from i table.slots index.rows row is in
          let k : ℕ = at.place in
          let many = length-slots order table es writable in
          let first = at.below in
          let inside : k < length es = omega arith in
          subst (λ j. slot_fault b h j ≡ None) at.here
          (slot_spelled b h (slot k) (row_for es k) (slot_row_is order table es writable k inside) ∙ sound_row_checks b h (slot k)
          (row_for es k) (sound k inside))

  never_meet : (j k : ℕ) → j < length es → k < length es → Meets (range_of (entry j)) (range_of (entry k)) → ⊥
  never_meet j k below_j below_k meets =
      let a = meets.first.from in
      let b = meets.first.to in
      let c = meets.second.from in
      let d = meets.second.to in
      elim (cases_order j k) [
        | inl same ↦ absurd (meets.slots (ap slot same))
        | inr (inl before) ↦ let apart = contents_apart es j k nothing before below_k in absurd (omega arith)
        | inr (inr behind) ↦ let apart = contents_apart es k j nothing behind below_j in absurd (omega arith)
      ]

  ranges_apart : Apart (ranges_of (entries b h))
  ranges_apart r s first second meets =
      let (e, e_there, e_is) = from_map range_of (entries b h) r first in
      let (f, f_there, f_is) = from_map range_of (entries b h) s second in
      let (j, below_j, j_is) = entry_is_written order table es writable e e_there in
      let (k, below_k, k_is) = entry_is_written order table es writable f f_there in
      let one : r ≡ range_of (entry j) = sym e_is ∙ ap range_of j_is in
      let other : s ≡ range_of (entry k) = sym f_is ∙ ap range_of k_is in
      never_meet j k below_j below_k (subst (λ t. Meets (range_of (entry j)) t) other (subst (λ t. Meets t s) one meets))

  pub image_valid_as : ValidAs b h
  image_valid_as =
      let many = length-written order table es writable in
      let all = length-entries in
      record {
        header = header_is index (index_is_fit order table es writable) (contents_text es);
        slots = slots_are_sound;
        count = omega arith;
        apart = ranges_apart;
      }

  pub image_valid : Valid b
  image_valid = (h, image_valid_as)

  -- Look-ups

  -- a name that was written is answered with its content
  pub look_written : (n text : List ℕ) → Contains es (n, text) → option_map (λ r. r.1) (look b n) ≡ Some text
  look_written n text there =
      let (e, inside, is) = written_there (n, text) there in
      let names : e.name ≡ n = ap (λ (p : Written). p.0) is in
      let contents : e.content ≡ text = ap (λ (p : Written). p.1) is in
      ap (λ l. option_map (λ r. r.1) (look b l)) (sym names) ∙ ap (option_map (λ r. r.1)) (look_some b h e image_valid_as.header
      inside) ∙ ap (λ (l : List ℕ). Some l) contents

  -- another name is looked up in vain
  pub look_unwritten : (n : List ℕ) → ((text : List ℕ) → Contains es (n, text) → ⊥) → look b n ≡ None
  look_unwritten n nowhere = look_none b h n image_valid_as.header (λ e there same. nowhere e.content
      (subst (λ l. Contains es (l, e.content)) (sym same) (there_written e there)))

  -- what a look-up answers was written
  pub look_says : (n : List ℕ) (found : Row × List ℕ) → look b n ≡ Some found → Contains es (n, found.1)
  look_says n found answer =
      let (e, there, same, is) = look_entry b h n found image_valid_as.header answer in
      let content : e.content ≡ found.1 = ap (λ (r : Row × List ℕ). r.1) is in
      subst (λ c. Contains es (n, c)) content (subst (λ l. Contains es (l, e.content)) (sym same) (there_written e there))
