-- What a row that a look-up in a valid image answers says of the place of its content.
use Rattle.std.proofs.Common.{◌≡◌, ℕ, ◌+◌, ◌≤◌, List, Ok, length, length-drop, Option, Some, ap, ◌∙◌, arith, subst}
use Rattle.std.specs.Prelude.{slice_range}
use Rattle.jm_form.specs.declared.container.Header.{Header}
use Rattle.jm_form.specs.declared.rows.Row.{Row}
use Rattle.jm_form.specs.Entries.{content_of}
use Rattle.jm_form.specs.Head.{header_of, index_length}
use Rattle.jm_form.specs.Places.{contents}
use Rattle.jm_form.specs.Validity.{SoundRow, look}
use Rattle.jm_form.proofs.HeadLaws.{header_fits}
use Rattle.jm_reader.specs.Look.{head}
use Rattle.jm_reader.proofs.HeadLaws.{content_there, head_is}
use Rattle.jm_image_c.specs.Told.{content_told, row_content}

-- the content of a sound row lies in the image
pub row_within : (b : List ℕ) (h : Header) (row : Row) → header_of b ≡ Ok h → SoundRow b (head b) row → index_length h + row.offset
    + row.size ≤ length b
row_within b h row read sound =
    let fits = header_fits b h read in
    let all = length-drop (index_length h) b in
    let inside = (subst (λ g. SoundRow b g row) (head_is b h read) sound).within in
    omega arith

-- the content of the row is that part of the image that the row says, and is what the look-up answers
pub record Placed (b : List ℕ) (h : Header) (name : List ℕ) (row : Row) : Type 0 where
  pub within : index_length h + row.offset + row.size ≤ length b
  pub part : slice_range b (index_length h + row.offset) (index_length h + row.offset + row.size) ≡ content_of (contents b (head b)) row
  pub told : content_told b (look b name) ≡ row_content h row

pub row_placed : (b : List ℕ) (h : Header) (name : List ℕ) (row : Row) → header_of b ≡ Ok h → SoundRow b (head b) row
    → ◌≡◌ {A = Option (Row × List ℕ)} (look b name) (Some (row, content_of (contents b (head b)) row)) → Placed b h name row
row_placed b h name row read sound sought = record {
  within = row_within b h row read sound;
  part = content_there b h row read;
  told = ap (content_told b) sought ∙ ap (λ g. row_content g row) (head_is b h read);
}
