-- A text of the strings that is a name: the name's bytes and a zero byte stand at its place.
use Rattle.std.proofs.Common.{◌≡◌, ◌==◌, ℕ, ◌+◌, ◌-◌, ◌<◌, ◌≤◌, false, true, List, [], ◌∷◌, Ok, length, take, drop, rules}
use Rattle.std.proofs.Common.{get_or, slice_range, ap, sym, ◌∙◌, arith, length-drop}
use Rattle.std.proofs.Math.Seq.{drop-cons}
use Rattle.std.proofs.lemmas.Bool.{eqb-true, false_from_ne_true, true_from_ne_false}
use Rattle.std.proofs.lemmas.List.{drop-take, length-take-le, take-take}
use Rattle.std.proofs.lemmas.List.Sums.{passes_at_first}
use Rattle.std.proofs.lemmas.Slice.Eq.{bytes_eq-Decides}
use Rattle.std.specs.List.{list_any, position_or_len}
use Rattle.std.specs.Str.{bytes_eq}
use Rattle.jm_bytes.proofs.Firsts.{before_first-take, position_below}
use Rattle.jm_form.specs.declared.container.Header.{Header}
use Rattle.jm_form.specs.Head.{header_of}
use Rattle.jm_form.specs.Places.{strings, strings_place}
use Rattle.jm_form.specs.Texts.{text_at, text_ends}
use Rattle.jm_form.proofs.HeadLaws.{header_fits, length-strings}
use Rattle.jm_form.proofs.SectionLaws.{section_from}
use Rattle.jm_reader.specs.Look.{head}
use Rattle.jm_reader.proofs.HeadLaws.{head_is}
use Rattle.jm_valid.proofs.PassageLaws.{long_stretch}

-- a part of the strings is a part of the image
pub part_of_strings : (b : List ℕ) (h : Header) (place n : ℕ) → place + n ≤ h.strings → slice_range b (strings_place h + place)
    (strings_place h + place + n) ≡ take n (drop place (strings b h))
part_of_strings b h place n within = search (rules, take-take, section_from)

-- the strings are that part of the image which the header says
pub strings_part : (b : List ℕ) (h : Header) (buf : List ℕ) (at : ℕ) → header_of b ≡ Ok h → buf ≡ b → at ≡ strings_place h
    → slice_range buf at (at + h.strings) ≡ strings b (head b)
strings_part b h buf at read same is = search (rules, head_is)

-- so many bytes from a place on that the image has are those of the strings
pub part_taken : (b : List ℕ) (h : Header) (place n : ℕ) (part : List ℕ) → header_of b ≡ Ok h → place + n ≤ h.strings
    → part ≡ slice_range b (strings_place h + place) (strings_place h + place + n) → part ≡ take n (drop place (strings b (head b)))
part_taken b h place n part read within cut =
    rw (head_is b h read) (cut ∙ part_of_strings b h place n within)

-- how many bytes of the strings stand from a place on
pub strings_left : (b : List ℕ) (h : Header) (place : ℕ) → header_of b ≡ Ok h
    → length (drop place (strings b (head b))) ≡ h.strings - place
strings_left b h place read =
    rw (head_is b h read) (length-drop place (strings b h) ∙ ap (λ n. n - place) (length-strings b h (header_fits b h read)))

-- where the text is the name, a zero byte is the last of them, and so the first
pub record Begins (rest name : List ℕ) : Type 0 where
  pub within : length name < length rest
  pub end : drop (length name) (take (length name + 1) rest) ≡ 0 ∷ []
  pub cut : list_any (λ x. x == 0) (take (length name + 1) rest) ≡ true

pub begins : (section name : List ℕ) (place : ℕ) → text_ends section place ≡ true → bytes_eq name (text_at section place) ≡ true
    → Begins (drop place section) name
begins section name place ends same =
    let rest : List ℕ = drop place section in
    let at : ℕ = position_or_len (λ x. x == 0) rest in
    let is : name ≡ take at rest = (bytes_eq-Decides name (text_at section place)).0 same in
    let below = position_below (λ x. x == 0) rest ends in
    let size = length-take-le at rest (omega arith) in
    let long : length name ≡ at = ap length is ∙ size in
    let zero_byte : get_or rest at 0 ≡ 0 = eqb-true (get_or rest at 0) 0 (passes_at_first (λ x. x == 0) rest 0 below) in
    let last : drop at (take (at + 1) rest) ≡ 0 ∷ [] =
    drop-take at 1 rest ∙ ap (take 1) (drop-cons rest at 0 below) ∙ ap (λ x. x ∷ []) zero_byte in
    record {
      within = omega arith;
      end = ap (λ k. drop k (take (k + 1) rest)) long ∙ last;
      cut = true_from_ne_false (list_any (λ x. x == 0) (take (length name + 1) rest))
          (λ none. let more = long_stretch rest (length name + 1) (omega arith) none in absurd (omega arith));
    }

-- a text that ends within a front of the bytes is that front's
pub text_of_front : (section : List ℕ) (place n : ℕ) → list_any (λ x. x == 0) (take n (drop place section)) ≡ true
    → text_at (take n (drop place section)) 0 ≡ text_at section place
text_of_front section place n some = (before_first-take (λ x. x == 0) n (drop place section) some).0

-- a name that doesn't begin so is not the text
pub other_text : (section name : List ℕ) (place : ℕ) → text_ends section place ≡ true → (Begins (drop place section) name → ⊥)
    → false ≡ bytes_eq name (text_at section place)
other_text section name place ends never =
    sym (false_from_ne_true (bytes_eq name (text_at section place)) (λ same. never (begins section name place ends same)))

-- a text that ends among the bytes that were looked at is the text
pub text_looked : (section : List ℕ) (place n : ℕ) (part text : List ℕ) → part ≡ take n (drop place section)
    → true ≡ text_ends part 0 → text ≡ text_at part 0 → text ≡ text_at section place
text_looked section place n part text part_is ends is = search (rules, text_of_front)
