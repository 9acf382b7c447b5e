-- What the content of a node tells by the first bytes of a file, which hold its index, is what it
-- tells by the file: the byte order, the locations and the strings stand in them.
use Rattle.std.proofs.Common.{◌≡◌, ℕ, ◌-◌, ◌+◌, ◌*◌, ◌==◌, nat_lt, ◌&&◌, cond, drop, List, map, Option, Some, None}
use Rattle.std.proofs.Common.{Result, Ok, Err, unwrap_or, sym, ap, ◌∙◌}
use Rattle.std.specs.List.{range_with_len}
use Rattle.jm_bytes.specs.Checks.{unless_fault}
use Rattle.jm_bytes.specs.Word.{word}
use Rattle.jm_form.specs.declared.container.Header.{Header}
use Rattle.jm_form.specs.declared.rows.Row.{Row}
use Rattle.jm_form.specs.declared.slots.SlotRow.TheVariants as slot_row
use Rattle.jm_form.specs.declared.trees.Holds.{Holds}
use Rattle.jm_form.specs.declared.trees.Holds.TheVariants.{Children, Owners}
use Rattle.jm_form.specs.ComputedRows.{row_front}
use Rattle.jm_form.specs.Entries.{name_of, row_read, spelled_row}
use Rattle.jm_form.specs.Head.{IsFileOf, header_of}
use Rattle.jm_form.specs.Places.{locations, strings}
use Rattle.jm_form.specs.Rows.{blank}
use Rattle.jm_form.specs.Texts.{text_at}
use Rattle.jm_form.specs.Validity.{ValidAs}
use Rattle.jm_form.proofs.HeadLaws.{header_fits}
use Rattle.jm_form.proofs.LocalityLaws.{SameIndex, same_index}
use Rattle.jm_reader.specs.Look.{head}
use Rattle.jm_reader.proofs.HeadLaws.{head_is}
use Rattle.jm_jrt.specs.declared.jrt_error.JrtError.{JrtError}
use Rattle.jm_jrt.specs.declared.words.Form.{Form}
use Rattle.jm_jrt.specs.declared.words.Form.TheVariants as form
use Rattle.jm_jrt.specs.Told.{all_told, bad_word, children_told, fault_of, first_bad_word, fits, is_half_sound, is_row_sound, owners_told}
use Rattle.jm_jrt.specs.Told.{pair_count, told_in, word_count, words_fault}

-- The same over the header, the strings and the locations

abbrev row_by : Header → List ℕ → ℕ → Option Row
row_by h places place = spelled_row (cond (nat_lt place h.locations) (row_read (row_front (drop place places))) slot_row.Outside)

abbrev word_by : Header → List ℕ → ℕ → ℕ
word_by h content k = word h.order content (4 * k)

abbrev children_by : Header → List ℕ → List ℕ → List ℕ → Result Holds JrtError
children_by h section places content =
    unless_fault
    (words_fault (λ k. fits content k && is_row_sound section (row_by h places (word_by h content k))) (word_count content))
    (Children (map (λ k. name_of section (unwrap_or (row_by h places (word_by h content k)) blank)) (range_with_len 0
    (word_count content - 0))))

abbrev owners_by : Header → List ℕ → List ℕ → Result Holds JrtError
owners_by h section content =
    unless_fault
    (words_fault (λ k. fits content k && is_half_sound section k (word_by h content k)) (2 * pair_count content))
    (Owners (map (λ k. record { empty = word_by h content (2 * k) == 1; «module» = text_at section (word_by h content (2 * k + 1)) })
    (range_with_len 0 (pair_count content - 0))))

abbrev bad_child_by : Header → List ℕ → List ℕ → List ℕ → Option ℕ
bad_child_by h section places content =
    first_bad_word (λ k. fits content k && is_row_sound section (row_by h places (word_by h content k))) (word_count content)

abbrev bad_pair_by : Header → List ℕ → List ℕ → Option ℕ
bad_pair_by h section content =
    first_bad_word (λ k. fits content k && is_half_sound section k (word_by h content k)) (2 * pair_count content)

-- Bytes with one index

module _ (f b : List ℕ) (h : Header) (front : head f ≡ h) (file : head b ≡ h) (same : SameIndex f b h) (content : List ℕ) where
  children_same : children_told f content ≡ children_told b content
  children_same =
      ap (λ g. children_by g (strings f g) (locations f g) content) front
      ∙ ap (λ s. children_by h s (locations f h) content) same.strings
      ∙ ap (λ l. children_by h (strings b h) l content) same.locations
      ∙ sym (ap (λ g. children_by g (strings b g) (locations b g) content) file)

  owners_same : owners_told f content ≡ owners_told b content
  owners_same =
      ap (λ g. owners_by g (strings f g) content) front
      ∙ ap (λ s. owners_by h s content) same.strings
      ∙ sym (ap (λ g. owners_by g (strings b g) content) file)

  told_same : (form : Form) → told_in f content form ≡ told_in b content form
  told_same form.Children = children_same
  told_same form.Owners = owners_same

  bad_same : (form : Form) → bad_word f content form ≡ bad_word b content form
  bad_same form.Children =
      ap (λ g. bad_child_by g (strings f g) (locations f g) content) front
      ∙ ap (λ s. bad_child_by h s (locations f h) content) same.strings
      ∙ ap (λ l. bad_child_by h (strings b h) l content) same.locations
      ∙ sym (ap (λ g. bad_child_by g (strings b g) (locations b g) content) file)
  bad_same form.Owners =
      ap (λ g. bad_pair_by g (strings f g) content) front
      ∙ ap (λ s. bad_pair_by h s content) same.strings
      ∙ sym (ap (λ g. bad_pair_by g (strings b g) content) file)

-- an index and each of its files tell the same
pub file_told : (f : List ℕ) (size : ℕ) (h : Header) → header_of f ≡ Ok h → ((b : List ℕ) → IsFileOf f size b → ValidAs b h)
    → (b : List ℕ) → IsFileOf f size b → (content : List ℕ) (form : Form) → told_in f content form ≡ told_in b content form
file_told f size h read valid b file content form = told_same f b h (head_is f h read) (head_is b h (valid b file).header)
    (same_index f size b h file (header_fits f h read)) content form

-- and have the same first bad word
pub file_bad : (f : List ℕ) (size : ℕ) (h : Header) → header_of f ≡ Ok h → ((b : List ℕ) → IsFileOf f size b → ValidAs b h)
    → (b : List ℕ) → IsFileOf f size b → (content : List ℕ) (form : Form) → bad_word f content form ≡ bad_word b content form
file_bad f size h read valid b file content form = bad_same f b h (head_is f h read) (head_is b h (valid b file).header)
    (same_index f size b h file (header_fits f h read)) content form

-- What is told, by the first bad word

pub all_is_told : (b content : List ℕ) (form : Form) → fault_of b content form ≡ None
    → Ok (all_told b content form) ≡ told_in b content form
all_is_told b content form.Children none = sym (ap (λ o. unless_fault o (all_told b content form.Children)) none)
all_is_told b content form.Owners none = sym (ap (λ o. unless_fault o (all_told b content form.Owners)) none)

pub fault_is_told : (b content : List ℕ) (form : Form) (error : JrtError) → fault_of b content form ≡ Some error
    → Err error ≡ told_in b content form
fault_is_told b content form.Children error some = sym (ap (λ o. unless_fault o (all_told b content form.Children)) some)
fault_is_told b content form.Owners error some = sym (ap (λ o. unless_fault o (all_told b content form.Owners)) some)
