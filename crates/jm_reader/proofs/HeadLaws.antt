-- The header of an image's bytes is the one that was read.
use Rattle.std.proofs.Common.{◌≡◌, ℕ, ◌+◌, true, List, Ok, sym, ap, ◌∙◌, subst}
use Rattle.std.specs.Prelude.{slice_range}
use Rattle.jm_form.specs.declared.container.Header.{Header}
use Rattle.jm_form.specs.declared.rows.Row.{Row}
use Rattle.jm_form.specs.Entries.{content_of}
use Rattle.jm_form.specs.Head.{header_of, index_length}
use Rattle.jm_form.specs.Places.{contents, strings, strings_place}
use Rattle.jm_form.specs.Texts.{text_at, text_ends, EndsWithin}
use Rattle.jm_form.specs.Validity.{ValidAs}
use Rattle.jm_form.proofs.HeadLaws.{header_fits}
use Rattle.jm_form.proofs.SectionLaws.{content_placed, text_placed}
use Rattle.jm_reader.specs.Look.{head, head_with}

pub head_is : (b : List ℕ) (h : Header) → header_of b ≡ Ok h → head b ≡ h
head_is b h read = ap (head_with b) read

pub head_valid : (b : List ℕ) (h : Header) → ValidAs b h → ValidAs b (head b)
head_valid b h valid = subst (ValidAs b) (sym (head_is b h valid.header)) valid

-- a text of the strings stands in the bytes that hold the index, and ends there
pub record TextThere (b : List ℕ) (h : Header) (place at : ℕ) : Type 0 where
  pub ends : EndsWithin b at
  pub text : text_at b at ≡ text_at (strings b h) place

pub text_there : (b : List ℕ) (h : Header) (place at : ℕ) → header_of b ≡ Ok h → text_ends (strings b h) place ≡ true → at
    ≡ strings_place h + place → TextThere b h place at
text_there b h place at read ends is =
    let placed = text_placed b h place (header_fits b h read) ends in
    let within = placed.ends in
    record { ends = record { within = rw is within }; text = ap (text_at b) is ∙ sym placed.text }

-- the part of the image that a row says is its content
pub content_there : (b : List ℕ) (h : Header) (row : Row) → header_of b ≡ Ok h → slice_range b (index_length h + row.offset)
    (index_length h + row.offset + row.size) ≡ content_of (contents b (head b)) row
content_there b h row read = sym (content_placed b h row) ∙ ap (λ g. content_of (contents b g) row) (sym (head_is b h read))
