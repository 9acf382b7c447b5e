-- The contents of an image in a file, which are read while files are made.
use Rattle.std.proofs.Common.{◌≡◌, ◌≢◌, ◌≤◌, ◌<◌, ◌+◌, ◌⊎◌, inl, inr, ℕ, true, false, List, [], ◌∷◌, ◌++◌, drop, length, rules}
use Rattle.std.proofs.Common.{map, take, get_or, Option, None, Some, Result, Ok, Err, IsErrAnd, option_map, refl, sym, ap, subst}
use Rattle.std.proofs.Common.{◌∙◌, arith, nat_eq, suc, zero, Bor}
use Rattle.std.specs.Slice.{IsItemAt}
use Rattle.std.specs.Str.{bytes_eq}
use Rattle.std.specs.List.{starts_with}
use Rattle.std.proofs.lemmas.Bool.{and_from, eq-eqb, false_from_ne_true, or_from, or_parts, true≢false, false≢true}
use Rattle.std.proofs.lemmas.List.{map-append, take_more, length-append, drop-append-le, drop_all}
use Rattle.std.proofs.lemmas.List.{take-append-drop, length-take-le}
use Rattle.std.proofs.lemmas.List.Elements.{All-cons, All-nil}
use Rattle.std.proofs.lemmas.List.Sums.{sum_by_push, sum_by-append, sum_by-take-le}
use Rattle.std.proofs.lemmas.Slice.Eq.{bytes_eq-Decides}
use Rattle.jm_outside.specs.Files.{Files, part}
use Rattle.jm_outside.specs.Made.{Elsewhere, MadeAll, MadePart, Writes, written}
use Rattle.jm_outside.specs.Outcome.{Shows}
use Rattle.jm_outside.proofs.MadeLaws.{file-written, part_of_all}
use Rattle.jm_filed.specs.declared.taking.TakenEntry.{TakenEntry}
use Rattle.jm_extract.specs.Extracted.{Makes, path_of, write_of, writes_of}
use Rattle.jm_filed.specs.Filed.{IsAt}
use Rattle.jm_extract.specs.Filed.{AreContents, HasContent, is_made_at, sizes, unkept_size}
use Rattle.jm_filed.specs.Taken.{content_in, taken_as}

-- Reading

-- one content more
pub contents_next : (told : Option Files) (b : List ℕ) (ts : List TakenEntry) (i : ℕ) (t : TakenEntry) (texts new : List (List ℕ))
    (text : List ℕ) → i < length ts → get_or ts i t ≡ t → length texts ≡ i → AreContents told b ts texts
    → Shows told (λ (files : Files). text ≡ content_in b t) → new ≡ texts ++ text ∷ [] → AreContents told b ts new
contents_next None b ts i t texts new text within is size before own more = tt
contents_next (Some files) b ts i t texts new text within is size before own more =
    let longer : length new ≡ i + 1 = rw (more, length-append texts (text ∷ []), size) refl in
    more
    ∙ ap (λ us. us ++ text ∷ []) (before ∙ ap (λ n. map (content_in b) (take n ts)) size)
    ∙ ap (λ u. map (content_in b) (take i ts) ++ u ∷ []) (own ∙ ap (content_in b) (sym is))
    ∙ sym (map-append (content_in b) (take i ts) (get_or ts i t ∷ []))
    ∙ ap (map (content_in b)) (sym (take_more ts i t within))
    ∙ ap (λ n. map (content_in b) (take n ts)) (sym longer)

-- and its size
pub sizes_next : (ts : List TakenEntry) (i : ℕ) (t : TakenEntry) → i < length ts → get_or ts i t ≡ t
    → sizes (take (i + 1) ts) ≡ sizes (take i ts) + t.content.size
sizes_next ts i t within is =
    ap sizes (take_more ts i t within) ∙ sum_by_push (λ (t : TakenEntry). t.content.size) (take i ts) (get_or ts i t)
    ∙ ap (λ (u : TakenEntry). sizes (take i ts) + u.content.size) is

-- which no more than all have
pub size_within : (ts : List TakenEntry) (i : ℕ) (t : TakenEntry) → i < length ts → get_or ts i t ≡ t
    → sizes (take i ts) + t.content.size ≤ sizes ts
size_within ts i t within is =
    omega (arith, sizes_next ts i t within is, sum_by-take-le (λ (t : TakenEntry). t.content.size) ts (i + 1))

-- Making

-- some of the files may be none
pub makes_part : {A E : Type 0} (Q : E → Type 0) (answer : Result A E) (writes : Writes) (old new : Option Files)
    → IsErrAnd answer Q → MadePart writes old new → Makes answer writes old new
makes_part Q (Ok x) writes old new gives part = absurd gives
makes_part Q (Err e) writes old new gives part = part

pub makes_all : {A E : Type 0} (answer : Result A E) (writes : Writes) (old new : Option Files) → MadeAll writes old new
    → Makes answer writes old new
makes_all (Ok x) writes old new made = made
makes_all (Err e) writes old new made = part_of_all writes old new made

-- what stands at a place of the texts that are kept, or that none does
abbrev pub IsKept : List (List ℕ) → ℕ → Option (List ℕ) → Type 0
IsKept texts i None = length texts ≤ i
IsKept texts i (Some kept) = (i < length texts) × (get_or texts i kept ≡ kept)

content_at : (f : TakenEntry → List ℕ) (ts : List TakenEntry) (i n : ℕ) (t : TakenEntry) (d : List ℕ) → i < n → i < length ts
    → get_or ts i t ≡ t → get_or (map f (take n ts)) i d ≡ f t
content_at f [] i n t d below within is = let none : ⊥ = omega (arith, within) in absurd none
content_at f (u ∷ ts) i zero t d below within is = let none : ⊥ = omega (arith, below) in absurd none
content_at f (u ∷ ts) zero (suc n) t d below within is = ap f is
content_at f (u ∷ ts) (suc i) (suc n) t d below within is = content_at f ts i n t d (omega arith) (omega arith) is

-- files that are made at other paths
elsewhere : (path dir b : List ℕ) (ts : List TakenEntry) (i : ℕ) → is_made_at path dir ts ≡ false
    → Elsewhere (writes_of dir (map (taken_as b) (take i ts))) path
elsewhere path dir b ts zero none = All-nil (λ (w : List ℕ × List ℕ). w.0 ≢ path)
elsewhere path dir b [] (suc i) none = All-nil (λ (w : List ℕ × List ℕ). w.0 ≢ path)
elsewhere path dir b (t ∷ ts) (suc i) none =
    let parts = or_parts (bytes_eq (path_of dir t.name) path) (is_made_at path dir ts) none in
    All-cons (λ (w : List ℕ × List ℕ). w.0 ≢ path) (write_of dir (taken_as b t)) (writes_of dir (map (taken_as b) (take i ts)))
    (λ same. true≢false (sym ((bytes_eq-Decides (path_of dir t.name) path).1 same) ∙ parts.0))
    (elsewhere path dir b ts i parts.1)

-- when its file is made, the content of an entry is kept, or still stands in the file of the image
pub has_content : (told now : Option Files) (path dir b : List ℕ) (ts : List TakenEntry) (texts : List (List ℕ)) (i : ℕ) (t : TakenEntry)
    (kept : Option (List ℕ)) → i < length ts → get_or ts i t ≡ t → IsAt told path b → AreContents told b ts texts
    → (length ts ≤ length texts) ⊎ (is_made_at path dir ts ≡ false)
    → MadeAll (writes_of dir (map (taken_as b) (take i ts))) told now → IsKept texts i kept
    → HasContent now path b (content_in b t) kept
has_content None now path dir b ts texts i t kept within is at contents enough made got =
    subst (λ (o : Option Files). HasContent o path b (content_in b t) kept) (sym made) (untold kept)
  where
    untold : (kept : Option (List ℕ)) → HasContent None path b (content_in b t) kept
    untold None = tt
    untold (Some text) = tt
has_content (Some files) now path dir b ts texts i t kept within is at contents enough made got =
    subst (λ (o : Option Files). HasContent o path b (content_in b t) kept) (sym made) (told kept enough got)
  where
    writes : Writes
    writes = writes_of dir (map (taken_as b) (take i ts))

    told : (kept : Option (List ℕ)) → (length ts ≤ length texts) ⊎ (is_made_at path dir ts ≡ false) → IsKept texts i kept
        → HasContent (Some (written files writes)) path b (content_in b t) kept
    told (Some text) enough got =
        sym got.1 ∙ ap (λ us. get_or us i text) contents
        ∙ content_at (content_in b) ts i (length texts) t text got.0 within is
    told None (inl all) got = absurd (lit-lt all got)
      where
        lit-lt : length ts ≤ length texts → length texts ≤ i → ⊥
        lit-lt all got = omega (arith, within, all, got)
    told None (inr none) got = at ∙ sym (file-written files writes path (elsewhere path dir b ts i none))

-- what stands at a place of the texts is kept
pub kept_of : (texts : List (List ℕ)) (i : ℕ) (item : Option (Bor (List ℕ))) → IsItemAt texts i item
    → IsKept texts i (option_map (λ x. x.now) item)
kept_of texts i None is = is.3
kept_of texts i (Some x) is = (is.3.0, sym is.1)

-- the bytes that are read for it
pub unkept_next : (ts : List TakenEntry) (texts : List (List ℕ)) (i : ℕ) (t : TakenEntry) (item : Option (Bor (List ℕ)))
    → i < length ts → get_or ts i t ≡ t → IsItemAt texts i item
    → sizes (drop (length texts) (take i ts)) + unkept_size t item ≡ sizes (drop (length texts) (take (i + 1) ts))
unkept_next ts texts i t None within is got =
    let size : length (take i ts) ≡ i = length-take-le i ts (omega (arith, within)) in
    let above = got.3 in
    sym (sum_by_push (λ (t : TakenEntry). t.content.size) (drop (length texts) (take i ts)) t)
    ∙ ap sizes (sym (drop-append-le (length texts) (take i ts) (t ∷ []) (omega (arith, above, size))))
    ∙ ap (λ u. sizes (drop (length texts) (take i ts ++ u ∷ []))) (sym is)
    ∙ ap (λ us. sizes (drop (length texts) us)) (sym (take_more ts i t within))
unkept_next ts texts i t (Some kept) within is got =
    let below = length-take-le i ts (omega (arith, within)) in
    let more = length-take-le (i + 1) ts (omega (arith, within)) in
    let all = got.3.0 in
    ap (λ us. sizes us + 0) (drop_all (length texts) (take i ts) (omega (arith, below, all)))
    ∙ ap sizes (sym (drop_all (length texts) (take (i + 1) ts) (omega (arith, more, all))))

pub drop_less : (n m : ℕ) (ts : List TakenEntry) → sizes (drop n (take m ts)) ≤ sizes (drop n ts)
drop_less zero m ts = sum_by-take-le (λ (t : TakenEntry). t.content.size) ts m
drop_less (suc n) zero ts = omega arith
drop_less (suc n) (suc m) [] = omega arith
drop_less (suc n) (suc m) (t ∷ ts) = drop_less n m ts

-- those that were read at first, and those that were read besides
pub sizes_parted : (ts : List TakenEntry) (n : ℕ) → sizes (take n ts) + sizes (drop n ts) ≡ sizes ts
sizes_parted ts n =
    sym (sum_by-append (λ (t : TakenEntry). t.content.size) (take n ts) (drop n ts)) ∙ ap sizes (take-append-drop n ts)

-- Paths

below_begins : (dir rest : List ℕ) → starts_with nat_eq (dir ++ rest) dir ≡ true
below_begins [] rest = refl
below_begins (a ∷ dir) rest =
    and_from (nat_eq a a) (starts_with nat_eq (dir ++ rest) dir) (eq-eqb a a refl) (below_begins dir rest)

-- no file below a directory has a path that doesn't begin with it
pub not_below : (path dir : List ℕ) (ts : List TakenEntry) → starts_with nat_eq path dir ≡ false → false ≡ is_made_at path dir ts
not_below path dir [] apart = search (rules)
not_below path dir (t ∷ ts) apart = search (rules, nat_eq, false_from_ne_true, or_from, false≢true, bytes_eq-Decides, below_begins, (not_below path dir ts apart))
