-- The parts of a table, and the entries of one part behind those of others.
use Rattle.std.proofs.Common.{◌≡◌, ℕ, zero, suc, ◌+◌, ◌-◌, ◌<◌, ◌^◌, min, List, [], ◌∷◌, ◌++◌, length, take}
use Rattle.std.proofs.Common.{get_or, flat_map, Result, Ok, Err, IfOk, IsOkAnd, refl, sym, ap, subst, ◌∙◌}
use Rattle.std.proofs.Common.{arith, length-append, append-nil}
use Rattle.std.proofs.lemmas.Grind.{flat_map-append}
use Rattle.std.proofs.lemmas.List.{map-append, take_all, take_more}
use Rattle.std.proofs.lemmas.List.Elements.{filter-append}
use Rattle.std.proofs.lemmas.List.Folds.{length-flat_map-take}
use Rattle.std.specs.List.{AllZip, range_with_len}
use Rattle.std.specs.Prelude.{nat_lt}
use Rattle.jm_bytes.specs.declared.texts.NoMemory.{NoMemory}
use Rattle.jm_bytes.proofs.Pairs.{range_with_len-append}
use Rattle.jm_form.specs.declared.ranges.Range.{Range}
use Rattle.jm_form.specs.declared.rows.Compression.{Compression}
use Rattle.jm_form.specs.Entries.{Entry}
use Rattle.jm_form.specs.Overlap.{range_by, ranges_by}
use Rattle.jm_valid.specs.declared.entries.Contents.{Contents}
use Rattle.jm_valid.specs.declared.sections.Sections.{Sections}
use Rattle.jm_valid.specs.Parts.{ContentsAt, Joins, entries_at, part_slots}
use Rattle.jm_valid.specs.Ranges.{ranges_with_bytes}
use Rattle.jm_valid.proofs.EntryRows.{entries_append, length-entries_at}

-- Numbers one after another

flat_map-push : (f : ℕ → List ℕ) (xs : List ℕ) (x : ℕ) → flat_map f (xs ++ x ∷ []) ≡ flat_map f xs ++ f x
flat_map-push f xs x = flat_map-append f xs (x ∷ []) ∙ ap (λ ys. flat_map f xs ++ ys) (append-nil (f x))

-- one part more, up to the next one's first slot or the end
pub parts_more : (all : ℕ) (firsts : List ℕ) (first next : ℕ) → first < all → min next all ≡ min (first + 4096) all
    → flat_map (part_slots all) firsts ≡ range_with_len 0 (min first all) → flat_map (part_slots all) (firsts ++ first ∷ [])
    ≡ range_with_len 0 (min next all)
parts_more all firsts first next below end before =
    let here : min first all ≡ first = omega arith in
    let more = min (first + 4096) all - first in
    let count : first + more ≡ min next all = omega arith in
    let start : 0 + first ≡ first = omega arith in
    flat_map-push (part_slots all) firsts first ∙ ap (λ ks. ks ++ part_slots all first) (before ∙ ap (range_with_len 0) here)
    ∙ sym (range_with_len-append 0 first more ∙ ap (λ (k : ℕ). range_with_len 0 first ++ range_with_len k more) start)
    ∙ ap (range_with_len 0) count

-- Answers beside the items

pub zip_at : {A B : Type 0} (R : A → B → Type 0) (xs : List A) (ys : List B) (i : ℕ) (d : A) (e : B) → AllZip R xs ys
    → i < length ys → (i < length xs) × R (get_or xs i d) (get_or ys i e)
zip_at R [] [] i d e zipped inside = absurd (omega arith)
zip_at R [] (y ∷ ys) i d e zipped inside = absurd zipped
zip_at R (x ∷ xs) [] i d e zipped inside = absurd zipped
zip_at R (x ∷ xs) (y ∷ ys) zero d e zipped inside = (omega arith, zipped.0)
zip_at R (x ∷ xs) (y ∷ ys) (suc i) d e zipped inside =
    let later = zip_at R xs ys i d e zipped.1 (omega arith) in (omega (arith, later.0), later.1)

pub zip_length : {A B : Type 0} (R : A → B → Type 0) (xs : List A) (ys : List B) → AllZip R xs ys → length xs ≡ length ys
zip_length R [] [] zipped = refl
zip_length R [] (y ∷ ys) zipped = absurd zipped
zip_length R (x ∷ xs) [] zipped = absurd zipped
zip_length R (x ∷ xs) (y ∷ ys) zipped = ap (λ (n : ℕ). suc n) (zip_length R xs ys zipped.1)

-- Parts

-- what is made of a part, unless no memory was found
abbrev pub IsPart : Sections → ℕ → Result Contents NoMemory → Type 0
IsPart s first part = IfOk part (ContentsAt s (part_slots s.header.length first))

ranges_append : (c : Compression) (es fs : List Entry) → ranges_with_bytes (ranges_by c (es ++ fs))
    ≡ ranges_with_bytes (ranges_by c es) ++ ranges_with_bytes (ranges_by c fs)
ranges_append c es fs = ap ranges_with_bytes (map-append (range_by c) es fs) ∙ filter-append (λ (r : Range). nat_lt r.start r.end)
    (ranges_by c es) (ranges_by c fs)

joined : (s : Sections) (is js : List ℕ) (old new part : Contents) → ContentsAt s is old → ContentsAt s js part → Joins old new part
    → ContentsAt s (is ++ js) new
joined s is js old new part front back joins =
    let whole = entries_append s is js in
    let sum = length-append (entries_at s is) (entries_at s js) in
    record {
      count = joins.count ∙ ap (λ (n : ℕ). n + part.count) front.count ∙ ap (λ (n : ℕ). length (entries_at s is) + n) back.count
          ∙ sym sum ∙ sym (ap length whole);
      ranges =
          joins.ranges ∙ ap (λ rs. rs ++ part.ranges.items) front.ranges ∙ ap (λ rs. ranges_with_bytes (ranges_by s.compression (entries_at s is))
          ++ rs) back.ranges
          ∙ sym (ranges_append s.compression (entries_at s is) (entries_at s js)) ∙ sym (ap (λ es. ranges_with_bytes (ranges_by s.compression es)) whole);
    }

-- the slots of the first parts, with one part more
slots_more : (s : Sections) (firsts : List ℕ) (i : ℕ) → i < length firsts → flat_map (part_slots s.header.length)
    (take (i + 1) firsts) ≡ flat_map (part_slots s.header.length) (take i firsts) ++ part_slots s.header.length (get_or firsts i 0)
slots_more s firsts i inside = ap (flat_map (part_slots s.header.length)) (take_more firsts i 0 inside)
    ∙ flat_map-push (part_slots s.header.length) (take i firsts) (get_or firsts i 0)

pub part_joined : (s : Sections) (firsts : List ℕ) (parts : List (Result Contents NoMemory)) (i : ℕ)
    (part : Result Contents NoMemory) (old new : Contents) → AllZip (IsPart s) firsts parts → i < length parts → part
    ≡ get_or parts i part → ContentsAt s (flat_map (part_slots s.header.length) (take i firsts)) old → IsOkAnd part (Joins old new)
    → ContentsAt s (flat_map (part_slots s.header.length) (take (i + 1) firsts)) new
part_joined s firsts parts i (Err none) old new zipped inside is before joins = absurd joins
part_joined s firsts parts i (Ok part) old new zipped inside is before joins =
    let here = zip_at (IsPart s) firsts parts i 0 (Ok part) zipped inside in
    let own : IsPart s (get_or firsts i 0) (Ok part) = subst (IsPart s (get_or firsts i 0)) (sym is) here.1 in
    subst (λ slots. ContentsAt s slots new) (sym (slots_more s firsts i here.0))
    (joined s (flat_map (part_slots s.header.length) (take i firsts)) (part_slots s.header.length (get_or firsts i 0)) old new part
    before own joins)

-- there is room for the count of one part more
pub part_room : (s : Sections) (firsts : List ℕ) (parts : List (Result Contents NoMemory)) (i : ℕ) (part : Result Contents NoMemory)
    (old : Contents) → AllZip (IsPart s) firsts parts → i < length parts → part ≡ get_or parts i part
    → ContentsAt s (flat_map (part_slots s.header.length) (take i firsts)) old
    → length (flat_map (part_slots s.header.length) firsts) < 2 ^ 32 → IfOk part (λ p. old.count + p.count < 2 ^ 32)
part_room s firsts parts i (Err none) old zipped inside is before few = tt
part_room s firsts parts i (Ok part) old zipped inside is before few =
    let here = zip_at (IsPart s) firsts parts i 0 (Ok part) zipped inside in
    let own : IsPart s (get_or firsts i 0) (Ok part) = subst (IsPart s (get_or firsts i 0)) (sym is) here.1 in
    let front = length-entries_at s (flat_map (part_slots s.header.length) (take i firsts)) in
    let back = length-entries_at s (part_slots s.header.length (get_or firsts i 0)) in
    let sum = length-flat_map-take (part_slots s.header.length) firsts i 0 here.0 in
    omega (arith, before.count, own.count, front, back, sum, few)

-- the first of the parts of all slots are put one behind the other
pub record PartsPut (s : Sections) (parts : List (Result Contents NoMemory)) (i : ℕ) (all : Contents) : Type 0 where
  pub firsts : List ℕ
  pub zipped : AllZip (IsPart s) firsts parts
  pub slots : flat_map (part_slots s.header.length) firsts ≡ range_with_len 0 s.header.length
  pub contents : ContentsAt s (flat_map (part_slots s.header.length) (take i firsts)) all

-- where they are all parts, they have all slots
pub parts_all : (s : Sections) (parts : List (Result Contents NoMemory)) (i : ℕ) (all : Contents) → PartsPut s parts i all
    → i ≡ length parts → ContentsAt s (range_with_len 0 s.header.length) all
parts_all s parts i all put end =
    let count = zip_length (IsPart s) put.firsts parts put.zipped in
    subst (λ is. ContentsAt s is all) put.slots
    (subst (λ fs. ContentsAt s (flat_map (part_slots s.header.length) fs) all) (take_all i put.firsts (omega (arith, count, end)))
    put.contents)

-- Evaluated
