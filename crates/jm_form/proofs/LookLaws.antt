-- What the table leads to is what the look-up answers.
use Rattle.std.proofs.Common.{◌≡◌, ℕ, ◌%◌, ◌<◌, inl, inr, true, List, Option, Some, None, Contains, Ok}
use Rattle.std.proofs.Common.{option_map, refl, sym, ap, ◌∙◌, subst}
use Rattle.std.proofs.lemmas.Bool.{false_from_ne_true, ltb-true}
use Rattle.std.proofs.lemmas.Slice.Eq.{bytes_eq-Decides}
use Rattle.std.specs.Prelude.{nat_lt}
use Rattle.std.specs.Str.{bytes_eq}
use Rattle.jm_names.specs.Hash.{hash, default_seed}
use Rattle.jm_bytes.proofs.Choice.{chosen, same_some}
use Rattle.jm_bytes.proofs.Finds.{find_found, find_none, find_only}
use Rattle.jm_form.specs.declared.container.Header.{Header}
use Rattle.jm_form.specs.declared.rows.Row.{Row}
use Rattle.jm_form.specs.declared.table.Redirect.{Redirect}
use Rattle.jm_form.specs.declared.table.Redirect.TheVariants as redirect
use Rattle.jm_form.specs.Entries.{Entry, content_of, entries, entry_of, entry_with, name_of, row_at}
use Rattle.jm_form.specs.Head.{header_of}
use Rattle.jm_form.specs.Places.{contents, strings}
use Rattle.jm_form.specs.Table.{probe, redirect_at, slot_below, slot_of}
use Rattle.jm_form.specs.Validity.{SoundRow, ValidAs, entry_found, look, look_with}
use Rattle.jm_form.proofs.EntryLaws.{entry_from, entry_there, same_entry}
use Rattle.jm_form.proofs.SlotLaws.{sound_row}

-- the look-up in bytes with a header is the search in their entries
pub look_with_header : (b : List ℕ) (h : Header) (name : List ℕ) → header_of b ≡ Ok h → look b name
    ≡ option_map entry_found (entry_with name (entries b h))
look_with_header b h name header = ap (look_with b name) header

-- where no entry has the name the look-up answers none
pub look_none : (b : List ℕ) (h : Header) (name : List ℕ) → header_of b ≡ Ok h → ((e : Entry) → Contains (entries b h) e → name
    ≡ e.name → ⊥) → look b name ≡ None
look_none b h name header other =
    let none = find_none (λ e. bytes_eq name e.name) (entries b h) (λ e there. false_from_ne_true (bytes_eq name e.name)
    (λ same. other e there ((bytes_eq-Decides name e.name).0 same))) in
    look_with_header b h name header ∙ ap (option_map entry_found) none

-- an entry of the name is what it answers
pub look_some : (b : List ℕ) (h : Header) (e : Entry) → header_of b ≡ Ok h → Contains (entries b h) e → look b e.name ≡ Some (entry_found e)
look_some b h e header there =
    let only : (f : Entry) → Contains (entries b h) f → bytes_eq e.name f.name ≡ true → f ≡ e =
    λ f other same. sym (same_entry b h e f there other ((bytes_eq-Decides e.name f.name).0 same)) in
    let one = find_only (λ f. bytes_eq e.name f.name) (entries b h) e there ((bytes_eq-Decides e.name e.name).1 refl) only in
    look_with_header b h e.name header ∙ ap (option_map entry_found) one

-- what it answers is of an entry of the name
pub look_entry : (b : List ℕ) (h : Header) (name : List ℕ) (found : Row × List ℕ) → header_of b ≡ Ok h → look b name ≡ Some found
    → (e : Entry) × Contains (entries b h) e × (name ≡ e.name) × (entry_found e ≡ found)
look_entry b h name found header answer = go (entry_with name (entries b h)) refl (sym (look_with_header b h name header) ∙ answer)
  where
    go : (o : Option Entry) → entry_with name (entries b h) ≡ o → option_map entry_found o ≡ Some found → (e : Entry)
        × Contains (entries b h) e × (name ≡ e.name) × (entry_found e ≡ found)
    go None is answer = cc
    go (Some e) is answer =
        let both = find_found (λ e. bytes_eq name e.name) (entries b h) e is in
        (e, both.0, (bytes_eq-Decides name e.name).0 both.1, same_some (entry_found e) found answer)

-- a row that it answers is sound, and its content is answered with it
pub look_row : (b : List ℕ) (h : Header) (name : List ℕ) (row : Row) → ValidAs b h → option_map (λ found. found.0) (look b name)
    ≡ Some row → SoundRow b h row × (look b name ≡ Some (row, content_of (contents b h) row))
look_row b h name row valid answer = go (look b name) refl answer
  where
    go : (o : Option (Row × List ℕ)) → look b name ≡ o → option_map (λ found. found.0) o ≡ Some row → SoundRow b h row
        × (look b name ≡ Some (row, content_of (contents b h) row))
    go None is answer = cc
    go (Some found) is answer =
        let (e, there, same, of) = look_entry b h name found valid.header is in
        let entry = entry_from b h e there in
        let sound = sound_row b h e.slot e.row (valid.slots e.slot entry.below) entry.row in
        let content : e.content ≡ content_of (contents b h) e.row = ap (λ (f : Entry). f.content) entry.is in
        let rows : e.row ≡ row = ap (λ (f : Row × List ℕ). f.0) of ∙ same_some found.0 row answer in (
          subst (SoundRow b h) rows sound,
          is ∙ ap Some (sym of) ∙ ap (λ (bytes : List ℕ). Some (e.row, bytes)) content
              ∙ ap (λ (r : Row). Some (r, content_of (contents b h) r)) rows,
        )

-- a name that leads to no slot is looked up in vain
pub look_nowhere : (b : List ℕ) (h : Header) (name : List ℕ) → ValidAs b h → probe b h name ≡ None → look b name ≡ None
look_nowhere b h name valid nowhere = look_none b h name valid.header other
  where
    other : (e : Entry) → Contains (entries b h) e → name ≡ e.name → ⊥
    other e there same = let led : None ≡ Some e.slot = sym nowhere ∙ ap (probe b h) same ∙ (entry_from b h e there).led in cc

-- an entry of a name that leads to a slot has the row of that slot
led_row : (b : List ℕ) (h : Header) (name : List ℕ) (i : ℕ) → probe b h name ≡ Some i → (e : Entry) → Contains (entries b h) e
    → name ≡ e.name → row_at b h i ≡ Some e.row
led_row b h name i led e there same =
    let entry = entry_from b h e there in
    let slot : i ≡ e.slot = same_some i e.slot (sym led ∙ ap (probe b h) same ∙ entry.led) in
    ap (row_at b h) slot ∙ entry.row

-- a name that leads to a slot is that slot's, or nobody's
pub look_blank : (b : List ℕ) (h : Header) (name : List ℕ) (i : ℕ) → ValidAs b h → probe b h name ≡ Some i → i < h.length
    → row_at b h i ≡ None → look b name ≡ None
look_blank b h name i valid led within blank = look_none b h name valid.header other
  where
    other : (e : Entry) → Contains (entries b h) e → name ≡ e.name → ⊥
    other e there same = let row : None ≡ Some e.row = sym blank ∙ led_row b h name i led e there same in cc

pub look_other : (b : List ℕ) (h : Header) (name : List ℕ) (i : ℕ) (row : Row) → ValidAs b h → probe b h name ≡ Some i
    → i < h.length → row_at b h i ≡ Some row → (name ≡ name_of (strings b h) row → ⊥) → look b name ≡ None
look_other b h name i row valid led within is differs = look_none b h name valid.header other
  where
    other : (e : Entry) → Contains (entries b h) e → name ≡ e.name → ⊥
    other e there same =
        let rows : e.row ≡ row = same_some e.row row (sym (led_row b h name i led e there same) ∙ is) in
        let names : e.name ≡ name_of (strings b h) e.row = ap (λ (f : Entry). f.name) (entry_from b h e there).is in
        differs (same ∙ names ∙ ap (name_of (strings b h)) rows)

pub look_found : (b : List ℕ) (h : Header) (name : List ℕ) (i : ℕ) (row : Row) → ValidAs b h → probe b h name ≡ Some i
    → i < h.length → row_at b h i ≡ Some row → name ≡ name_of (strings b h) row → ◌≡◌ {A = Option (Row × List ℕ)} (look b name)
    (Some (row, content_of (contents b h) row))
look_found b h name i row valid led within is same =
    let there = entry_there b h i row within is (ap (probe b h) (sym same) ∙ led) in
    ap (look b) same ∙ look_some b h (entry_of b h i row) valid.header there

below_within : (slots slot i : ℕ) → slot_below slots slot ≡ Some i → i < slots
below_within slots slot i e =
    elim (chosen (nat_lt slot slots) (Some slot) None (Some i) e) [
      | inl both ↦ let same = same_some slot i both.1 in let below = ltb-true slot slots both.0 in rw same at below
      | inr both ↦ let other = both.1 in cc
    ]

pub slot_within : (slots : ℕ) (name : List ℕ) (r : Redirect) (i : ℕ) → slot_of slots name r ≡ Some i → i < slots
slot_within slots name redirect.Nowhere i e = cc
slot_within slots name (redirect.Slot slot) i e = below_within slots slot i e
slot_within slots name (redirect.Seed seed) i e = below_within slots (hash seed name % slots) i e

-- the slot that a name leads to is one of the table
pub probe_within : (b : List ℕ) (h : Header) (name : List ℕ) (i : ℕ) → probe b h name ≡ Some i → i < h.length
probe_within b h name i e = slot_within h.length name (redirect_at b h (hash default_seed name)) i e
