-- Where the parts of the sections stand in the image.
use Rattle.std.proofs.Common.{◌≡◌, ◌==◌, ℕ, ◌+◌, ◌-◌, ◌<◌, ◌≤◌, true, false, min, List, length, take, drop}
use Rattle.std.proofs.Common.{slice_range, sym, ap, ◌∙◌, ◌⊎◌, inl, inr, arith, length-take, length-drop}
use Rattle.std.proofs.lemmas.List.{drop-drop, drop-take, drop_all, take-take, take_min}
use Rattle.std.specs.List.{before_first, list_any}
use Rattle.jm_bytes.proofs.Firsts.{before_first-take}
use Rattle.jm_form.specs.declared.container.Header.{Header}
use Rattle.jm_form.specs.declared.rows.Row.{Row}
use Rattle.jm_form.specs.ComputedRows.{row_front}
use Rattle.jm_form.specs.Entries.{content_of}
use Rattle.jm_form.specs.Head.{index_length}
use Rattle.jm_form.specs.Places.{contents, locations, locations_place, strings, strings_place}
use Rattle.jm_form.specs.Texts.{text_at, text_ends}
use Rattle.jm_form.proofs.HeadLaws.{length-locations}
use Rattle.jm_form.proofs.ComputedRowsLaws.{row_within_64}

-- a part of a section, from a place on
pub section_from : (b : List ℕ) (start size place : ℕ) → place ≤ size → drop place (take size (drop start b))
    ≡ take (size - place) (drop (start + place) b)
section_from b start size place below =
    let whole : place + (size - place) ≡ size = omega arith in
    let cut = drop-take place (size - place) (drop start b) in
    rw whole at cut ∙ ap (λ l. take (size - place) l) (drop-drop place start b)

place_below : (section : List ℕ) (place : ℕ) → text_ends section place ≡ true → place < length section
place_below section place ends = elim (cases section place) [
  | inl below ↦ below
  | inr past ↦
      let none : text_ends section place ≡ false = ap (list_any (λ x. x == 0)) (drop_all place section past) in cc
]
  where
    cases : (section : List ℕ) (place : ℕ) → (place < length section) ⊎ (length section ≤ place)
    cases section place = grind arith

-- a text that ends in the strings stands in the image, with its zero byte
pub record Placed (b : List ℕ) (h : Header) (place : ℕ) : Type 0 where
  pub text : text_at (strings b h) place ≡ text_at b (strings_place h + place)
  pub ends : strings_place h + place + length (text_at b (strings_place h + place)) < length b

pub text_placed : (b : List ℕ) (h : Header) (place : ℕ) → index_length h ≤ length b → text_ends (strings b h) place ≡ true
    → Placed b h place
text_placed b h place fits ends =
    let start : ℕ = strings_place h in
    let size = length-take h.strings (drop start b) in
    let behind = length-drop start b in
    let below = place_below (strings b h) place ends in
    let from = section_from b start h.strings place (omega arith) in
    let some : list_any (λ x. x == 0) (take (h.strings - place) (drop (start + place) b)) ≡ true = ap (list_any (λ x. x == 0))
    (sym from) ∙ ends in
    let same = before_first-take (λ x. x == 0) (h.strings - place) (drop (start + place) b) some in
    let cut = length-take (h.strings - place) (drop (start + place) b) in
    let rest = length-drop (start + place) b in
    record {
      text = ap (before_first (λ x. x == 0)) from ∙ same.0;
      ends = let short = same.1 in omega arith;
    }

-- a content is a part of the image
pub content_placed : (b : List ℕ) (h : Header) (row : Row) → content_of (contents b h) row
    ≡ slice_range b (index_length h + row.offset) (index_length h + row.offset + row.size)
content_placed b h row =
    let n : index_length h + row.offset + row.size - (index_length h + row.offset) ≡ row.size = omega arith in
    rw n (ap (λ l. take row.size l) (drop-drop row.offset (index_length h) b))

-- the strings from a place on are a part of the image
pub strings_from : (b : List ℕ) (h : Header) (place : ℕ) → place ≤ h.strings → slice_range b (strings_place h + place)
    (strings_place h + place + (h.strings - place)) ≡ drop place (strings b h)
strings_from b h place within =
    let start : ℕ = strings_place h in
    let size : start + place + (h.strings - place) - (start + place) ≡ h.strings - place = omega arith in
    rw size (sym (section_from b start h.strings place within))

-- 64 bytes at a place of the locations, or all that they have there, are enough for the row there
pub row_in_part : (b : List ℕ) (h : Header) (place n : ℕ) → index_length h ≤ length b → place ≤ h.locations
    → n ≡ min (h.locations - place) 64 → row_front (slice_range b (locations_place h + place) (locations_place h + place + n))
    ≡ row_front (drop place (locations b h))
row_in_part b h place n fits within least =
    let start : ℕ = locations_place h in
    let text : List ℕ = drop place (locations b h) in
    let from = section_from b start h.locations place within in
    let size : start + place + n - (start + place) ≡ n = omega arith in
    let all = length-locations b h fits in
    let behind = length-drop place (locations b h) in
    let part : slice_range b (start + place) (start + place + n) ≡ take n text =
    rw size (sym (ap (λ l. take n l) from ∙ take-take n (h.locations - place) (drop (start + place) b) (omega arith))) in
    let least_text : n ≡ min 64 (length text) = omega (arith, least) in
    ap row_front (part ∙ ap (λ (n : ℕ). take n text) least_text ∙ take_min 64 text) ∙ row_within_64 text 64 (omega arith)
