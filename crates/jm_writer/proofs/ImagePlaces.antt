-- What the places in a written image lead to: the offset word of a name, and the place of a text.
use Rattle.std.proofs.Common.{◌≡◌, ◌≢◌, ℕ, ◌<◌, List, [], ◌++◌, length, map, get_or, Some, unwrap_or}
use Rattle.std.proofs.Common.{AllPairs, Contains, sym, ap, ◌∙◌, subst, arith}
use Rattle.std.proofs.lemmas.List.{get_or-map, get_or_default}
use Rattle.std.proofs.lemmas.Slice.Eq.{bytes_eq-Decides}
use Rattle.std.specs.List.{zip}
use Rattle.std.specs.Map.{lookup}
use Rattle.std.specs.Str.{bytes_eq}
use Rattle.jm_bytes.specs.declared.words.Order.{Order}
use Rattle.jm_form.specs.Strings.{IsZeroFree}
use Rattle.jm_form.specs.declared.trees.Owner.{Owner}
use Rattle.jm_form.specs.Entries.{entry_of}
use Rattle.jm_form.specs.Greedy.{GreedyTable}
use Rattle.jm_form.specs.Layout.{Index, Written, image_of, index_of, index_text, name_place, names_of, row_place, sized, text_place}
use Rattle.jm_form.specs.Nodes.{LeadsTo, StandsAt}
use Rattle.jm_form.specs.Texts.{text_at, text_ends}
use Rattle.jm_writer.specs.Writable.{Writable, header_with}
use Rattle.jm_writer.proofs.ImageEntries.{entry_is_there, length-names, length-slots, name_is, nothing, row_for}
use Rattle.jm_writer.proofs.ImageLists.{lookup_at}
use Rattle.jm_writer.proofs.ImageSections.{IndexFits, strings_are}
use Rattle.jm_writer.proofs.ImageTexts.{text_told}
use Rattle.jm_writer.proofs.ImageValid.{names_apart, offset_word_of}

-- a text that is held stands at its place
pub owner_stands : (index : Index) (fits : IndexFits index) (text : List ℕ) (owner : Owner) → Contains index.texts owner.«module»
    → IsZeroFree owner.«module» → StandsAt (index_text index ++ text) (header_with index) owner (text_place index.texts owner.«module»)
owner_stands index fits text owner held free =
    let told = text_told index.texts owner.«module» held free in
    let section = strings_are index fits text in
    record {
      below = told.below;
      ends = ap (λ s. text_ends s (text_place index.texts owner.«module»)) section ∙ told.ends;
      text = ap (λ s. text_at s (text_place index.texts owner.«module»)) section ∙ told.told;
    }

module _ (order : Order) (table : GreedyTable) (es : List Written) (writable : Writable order table es) where
  abbrev index : Index
  index = index_of order table (map sized es)

  pub all_names_differ : AllPairs (λ m n. m ≢ n) (names_of es)
  all_names_differ i j d before below same =
      let many = length-names order table es writable in
      let one : get_or (names_of es) i d ≡ (get_or es i nothing).0 = get_or-map (λ r. r.0) es i nothing d (omega arith) in
      let other : get_or (names_of es) j d ≡ (get_or es j nothing).0 = get_or-map (λ r. r.0) es j nothing d (omega arith) in
      names_apart order table es writable i j before (omega arith) (sym one ∙ same ∙ other)

  -- the place of a name's row is the offset word of the entry that has it
  pub name_place_leads : (name : List ℕ) → Contains (names_of es) name → LeadsTo (image_of order table es) (header_with index) name
      (name_place index (names_of es) name)
  name_place_leads name (k, inside, is) =
      let many = length-names order table es writable in
      let slots = length-slots order table es writable in
      let below : k < length es = omega arith in
      let here : get_or (names_of es) k [] ≡ name = get_or_default (names_of es) k [] name inside ∙ is in
      let same : (get_or es k nothing).0 ≡ name = sym (get_or-map (λ r. r.0) es k nothing [] below) ∙ here in
      let found : lookup (bytes_eq name) (zip (names_of es) table.slots) ≡ Some (get_or table.slots k 0) =
      subst (λ n. lookup (bytes_eq n) (zip (names_of es) table.slots) ≡ Some (get_or table.slots k 0)) here
      (lookup_at bytes_eq bytes_eq-Decides (names_of es) table.slots k [] 0 all_names_differ inside (omega arith)) in
      let word = offset_word_of order table es writable k below in (
        entry_of (image_of order table es) (header_with index) (get_or table.slots k 0) (row_for es k),
        entry_is_there order table es writable k below,
        name_is order table es writable k below ∙ same,
        ap (λ o. row_place index (unwrap_or o 0)) found ∙ sym word,
      )
