-- The fault of a slot, by what its offset word leads to.
use Rattle.std.proofs.Common.{◌≡◌, ℕ, ◌+◌, ◌-◌, ◌≤◌, ◌&&◌, ◌==◌, not, Bool, true, false, cond}
use Rattle.std.proofs.Common.{List, [], ◌∷◌, length, Option, Some, None, is_none, refl, sym, ap, ◌∙◌, arith}
use Rattle.std.proofs.lemmas.Bool.{eqb-true, not-false}
use Rattle.std.proofs.lemmas.Bool.Decides.{nat_tests}
use Rattle.std.specs.Prelude.{nat_lt, nat_le}
use Rattle.jm_bytes.proofs.CheckLaws.{fault_if_none, no_fault_head, no_fault_tail}
use Rattle.jm_bytes.specs.Checks.{fault_if, first_fault}
use Rattle.jm_form.specs.declared.container.Header.{Header}
use Rattle.jm_form.specs.declared.damage.Damage.{Damage}
use Rattle.jm_form.specs.declared.damage.Damage.TheVariants as damage
use Rattle.jm_form.specs.declared.rows.Compression.{Compression}
use Rattle.jm_form.specs.declared.rows.Compression.TheVariants.{Refused}
use Rattle.jm_form.specs.declared.rows.Row.{Row}
use Rattle.jm_form.specs.declared.slots.SlotRow.{SlotRow}
use Rattle.jm_form.specs.declared.slots.SlotRow.TheVariants as slot_row
use Rattle.jm_form.specs.ComputedRows.{row_front}
use Rattle.jm_form.specs.Damages.{content_fits, entry_checks, row_checks, slot_fault, slot_fault_with}
use Rattle.jm_form.specs.Entries.{row_at, row_of_slot, row_read, row_text, spelled_row, texts_end}
use Rattle.jm_form.specs.Places.{contents, offset_word, strings}
use Rattle.jm_form.specs.Rows.{judged}
use Rattle.jm_form.specs.Texts.{text_ends}
use Rattle.jm_form.specs.Validity.{SoundRow, SoundRowWith}

-- The checks of a slot, over whether its offset word is within the locations and what was read there

abbrev slot_row_from : Bool → Option (Row × ℕ) → SlotRow
slot_row_from inside read = cond inside (row_read read) slot_row.Outside

abbrev checks_from : Compression → ℕ → List ℕ → ℕ → Bool → Option (Row × ℕ) → List (Option Damage)
checks_from c i section size inside read =
    fault_if (not inside) (damage.Offset i)
    ∷ fault_if (is_none read) (damage.Row i)
    ∷ entry_checks c i section size (spelled_row (slot_row_from inside read))

blank_fault : (c : Compression) (i : ℕ) (section : List ℕ) (size : ℕ) (inside : Bool) (read : Option (Row × ℕ)) → slot_row_from inside read
    ≡ slot_row.Blank → first_fault (checks_from c i section size inside read) ≡ None
blank_fault c i section size false read e = cc
blank_fault c i section size true None e = cc
blank_fault c i section size true (Some r) e = ap (λ s. first_fault (entry_checks c i section size (spelled_row s))) e

spelled_fault : (c : Compression) (i : ℕ) (section : List ℕ) (size : ℕ) (inside : Bool) (read : Option (Row × ℕ)) (row : Row)
    → slot_row_from inside read ≡ slot_row.Spelled row → first_fault (checks_from c i section size inside read)
    ≡ first_fault (row_checks i section size (judged c row))
spelled_fault c i section size false read row e = cc
spelled_fault c i section size true None row e = cc
spelled_fault c i section size true (Some r) row e = ap (λ s. first_fault (entry_checks c i section size (spelled_row s))) e

-- The fault of a slot, with contents of so many bytes

pub slot_blank_with : (c : Compression) (b : List ℕ) (h : Header) (size i : ℕ) → row_of_slot b h i ≡ slot_row.Blank → slot_fault_with c b h size i ≡ None
slot_blank_with c b h size i e = blank_fault c i (strings b h) size (nat_lt (offset_word b h i) h.locations) (row_front (row_text b h i)) e

pub slot_spelled_with : (c : Compression) (b : List ℕ) (h : Header) (size i : ℕ) (row : Row) → row_of_slot b h i ≡ slot_row.Spelled row
    → slot_fault_with c b h size i ≡ first_fault (row_checks i (strings b h) size (judged c row))
slot_spelled_with c b h size i row e = spelled_fault c i (strings b h) size (nat_lt (offset_word b h i) h.locations)
    (row_front (row_text b h i)) row e

-- with the contents of the bytes, none compressed

pub slot_blank : (b : List ℕ) (h : Header) (i : ℕ) → row_of_slot b h i ≡ slot_row.Blank → slot_fault b h i ≡ None
slot_blank b h i e = slot_blank_with Refused b h (length (contents b h)) i e

pub slot_spelled : (b : List ℕ) (h : Header) (i : ℕ) (row : Row) → row_of_slot b h i ≡ slot_row.Spelled row → slot_fault b h i
    ≡ first_fault (row_checks i (strings b h) (length (contents b h)) row)
slot_spelled b h i row e = slot_spelled_with Refused b h (length (contents b h)) i row e

-- A slot without a fault

-- the row that a slot spells
spelled_there : (s : SlotRow) (row : Row) → spelled_row s ≡ Some row → s ≡ slot_row.Spelled row
spelled_there slot_row.Outside row e = cc
spelled_there slot_row.Unspelled row e = cc
spelled_there slot_row.Blank row e = cc
spelled_there (slot_row.Spelled other) row e = cc

pub row_spelled : (b : List ℕ) (h : Header) (i : ℕ) (row : Row) → row_at b h i ≡ Some row → row_of_slot b h i ≡ slot_row.Spelled row
row_spelled b h i row e = spelled_there (row_of_slot b h i) row e

content_within : (offset size all : ℕ) → nat_le size all && nat_le offset (all - size) ≡ true → offset + size ≤ all
content_within offset size all e = grind (arith, nat_tests)

-- the test of a check that finds nothing holds
test_holds : (test : Bool) (fault : Damage) (later : List (Option Damage)) → first_fault (fault_if (not test) fault ∷ later) ≡ None
    → test ≡ true
test_holds test fault later e = not-false test (fault_if_none (not test) fault (no_fault_head (fault_if (not test) fault) later e))

pub checked_row : (s : List ℕ) (all i : ℕ) (row : Row) → first_fault (row_checks i s all row) ≡ None → SoundRowWith s all row
checked_row s all i row clear =
    let stored = fault_if (not (row.packed == 0)) (damage.Compressed i) in
    let texts = text_check s 1 row.module in
    let parents = text_check s 2 row.parent in
    let bases = text_check s 3 row.base in
    let exts = text_check s 4 row.ext in
    let content = fault_if (not (content_fits row all)) (damage.Range i) in
    let after_stored = no_fault_tail stored (texts ∷ parents ∷ bases ∷ exts ∷ content ∷ []) clear in
    let after_module = no_fault_tail texts (parents ∷ bases ∷ exts ∷ content ∷ []) after_stored in
    let after_parent = no_fault_tail parents (bases ∷ exts ∷ content ∷ []) after_module in
    let after_base = no_fault_tail bases (exts ∷ content ∷ []) after_parent in
    let after_ext = no_fault_tail exts (content ∷ []) after_base in
    record {
      stored = eqb-true row.packed 0 (test_holds (row.packed == 0) (damage.Compressed i) (texts ∷ parents ∷ bases ∷ exts ∷ content
          ∷ []) clear);
      module_ends = test_holds (text_ends s row.module) (damage.Text i 1) (parents ∷ bases ∷ exts ∷ content ∷ []) after_stored;
      parent_ends = test_holds (text_ends s row.parent) (damage.Text i 2) (bases ∷ exts ∷ content ∷ []) after_module;
      base_ends = test_holds (text_ends s row.base) (damage.Text i 3) (exts ∷ content ∷ []) after_parent;
      ext_ends = test_holds (text_ends s row.ext) (damage.Text i 4) (content ∷ []) after_base;
      within = content_within row.offset row.size all (test_holds (content_fits row all) (damage.Range i) [] after_ext);
    }
  where
    text_check : List ℕ → ℕ → ℕ → Option Damage
    text_check s kind place = fault_if (not (text_ends s place)) (damage.Text i kind)

-- the row of a slot without a fault, where it isn't blank, is sound as it is judged
pub sound_row_with : (c : Compression) (b : List ℕ) (h : Header) (size i : ℕ) (row : Row) → slot_fault_with c b h size i ≡ None → row_at b h i
    ≡ Some row → SoundRowWith (strings b h) size (judged c row)
sound_row_with c b h size i row clear there = checked_row (strings b h) size i (judged c row)
    (sym (slot_spelled_with c b h size i row (row_spelled b h i row there)) ∙ clear)

pub sound_row : (b : List ℕ) (h : Header) (i : ℕ) (row : Row) → slot_fault b h i ≡ None → row_at b h i ≡ Some row → SoundRow b h row
sound_row b h i row clear there = sound_row_with Refused b h (length (contents b h)) i row clear there

all_four : (a b c d : Bool) → a ≡ true → b ≡ true → c ≡ true → d ≡ true → a && b && c && d ≡ true
all_four a b c d one two three four = rw (one, two, three, four) refl

-- the texts of a sound row end
pub sound_texts_with : (section : List ℕ) (size : ℕ) (row : Row) → SoundRowWith section size row → texts_end section row ≡ true
sound_texts_with section size row sound = all_four _ _ _ _ sound.module_ends sound.parent_ends sound.base_ends sound.ext_ends

pub sound_texts : (b : List ℕ) (h : Header) (row : Row) → SoundRow b h row → texts_end (strings b h) row ≡ true
sound_texts b h row sound = sound_texts_with (strings b h) (length (contents b h)) row sound
