-- The texts of a written image: each piece of each name is held, and stands at its place.
use Rattle.std.proofs.Common.{◌≡◌, ◌≢◌, ℕ, ◌+◌, ◌==◌, ◌<◌, inl, inr, Bool, true, false, cond, List, [], ◌∷◌}
use Rattle.std.proofs.Common.{◌++◌, length, drop, get_or, Option, Some, None, option_map, unwrap_or, is_some}
use Rattle.std.proofs.Common.{IsSome, Contains, AllPairs, refl, sym, ap, ◌∙◌, subst, arith, append_assoc}
use Rattle.std.proofs.Common.{length-append, drop_at, take_at}
use Rattle.std.proofs.lemmas.Bool.{eqb-true, false≢true}
use Rattle.std.proofs.lemmas.List.{get_or_append_left, get_or_at}
use Rattle.std.proofs.lemmas.List.Elements.{All-nil, Contains-append_left, Contains-append_right, Contains-push}
use Rattle.std.proofs.lemmas.List.Folds.{list_any_at}
use Rattle.std.proofs.lemmas.List.Kept.{AllPairs-cons}
use Rattle.std.proofs.lemmas.Slice.Eq.{bytes_eq-Decides}
use Rattle.std.specs.List.{before_first, flat_map, list_any}
use Rattle.std.specs.Prelude.{codes}
use Rattle.std.specs.Str.{bytes_eq}
use Rattle.jm_bytes.proofs.Firsts.{before_first_at}
use Rattle.jm_bytes.proofs.Members.{contains_cases, contains_later, contains_none}
use Rattle.jm_bytes.proofs.Pairs.{pairs_append, pairs_none}
use Rattle.jm_bytes.proofs.SameOrder.{contains_flat_map}
use Rattle.jm_names.proofs.JoinLaws.{join-split}
use Rattle.jm_names.specs.Names.{Cut, ext_end, join, module_front, parent_front, split}
use Rattle.jm_form.proofs.StringsLaws.{place-iff}
use Rattle.jm_form.specs.Strings.{place_of, section_of, with_text, IsZeroFree}
use Rattle.jm_form.specs.Entries.{name_of}
use Rattle.jm_form.specs.Layout.{pieces, row_with, text_place, texts_of, with_texts}
use Rattle.jm_form.specs.Rows.{blank}
use Rattle.jm_form.specs.Texts.{text_at, text_ends}

-- A text at its place

-- a section has a text and its zero byte at a place
record Parts (section : List ℕ) (place : ℕ) (text : List ℕ) : Type 0 where
  pub front : List ℕ
  pub rest : List ℕ
  pub parts : section ≡ front ++ (text ++ 0 ∷ rest)
  pub size : length front ≡ place

place_parts : (text : List ℕ) (texts : List (List ℕ)) (place : ℕ) → place_of text texts ≡ Some place → Parts (section_of texts) place text
place_parts text [] place is = cc
place_parts text (first ∷ texts) place is = go (bytes_eq text first) refl (place_of text texts) refl is (place_parts text texts)
  where
    go : (b : Bool) → bytes_eq text first ≡ b → (o : Option ℕ) → place_of text texts ≡ o
        → cond b (Some 0) (option_map (λ p. (length first + 1) + p) o) ≡ Some place → ((p : ℕ) → place_of text texts ≡ Some p
        → Parts (section_of texts) p text) → Parts (section_of (first ∷ texts)) place text
    go true test o held is later =
        let same : text ≡ first = (bytes_eq-Decides text first).0 test in
        let zero_place : 0 ≡ place = cc in
        record {
          front = [];
          rest = section_of texts;
          parts = append_assoc first (0 ∷ []) (section_of texts) ∙ ap (λ t. t ++ 0 ∷ section_of texts) (sym same);
          size = zero_place;
        }
    go false test None held is later = cc
    go false test (Some p) held is later =
        let there = later p held in
        let count : (length first + 1) + p ≡ place = cc in
        let front = length-append first (0 ∷ []) in
        let all = length-append (first ++ 0 ∷ []) there.front in
        let size = there.size in
        record {
          front = (first ++ 0 ∷ []) ++ there.front;
          rest = there.rest;
          parts = ap (λ l. (first ++ 0 ∷ []) ++ l) there.parts ∙ sym (append_assoc (first ++ 0 ∷ []) there.front (text ++ 0 ∷ there.rest));
          size = omega arith;
        }

-- at a place of a section there is a text, and it ends
pub record Told (section : List ℕ) (place : ℕ) (text : List ℕ) : Type 0 where
  pub told : text_at section place ≡ text
  pub ends : text_ends section place ≡ true
  pub below : place < length section

free_front : (text rest : List ℕ) → IsZeroFree text → before_first (λ x. x == 0) (text ++ 0 ∷ rest) ≡ text
free_front text rest free =
    let size = length-append text (0 ∷ rest) in
    let here : get_or (text ++ 0 ∷ rest) (length text) 0 ≡ 0 = get_or_at text 0 rest 0 (length text) refl in
    before_first_at (λ x. x == 0) (text ++ 0 ∷ rest) (length text) 0 (omega arith) earlier (ap (λ x. x == 0) here)
    ∙ take_at text (0 ∷ rest) (length text) refl
  where
    earlier : (k : ℕ) → k < length text → get_or (text ++ 0 ∷ rest) k 0 == 0 ≡ true → ⊥
    earlier k below is =
        let same = get_or_append_left text (0 ∷ rest) 0 k below in
        let byte : get_or text k 0 ≡ 0 = sym same ∙ eqb-true (get_or (text ++ 0 ∷ rest) k 0) 0 is in
        free (k, below, byte)

told_parts : (section : List ℕ) (place : ℕ) (text : List ℕ) → IsZeroFree text → Parts section place text → Told section place text
told_parts section place text free there =
    let from : drop place section ≡ text ++ 0 ∷ there.rest = ap (drop place) there.parts
    ∙ drop_at there.front (text ++ 0 ∷ there.rest) place there.size in
    let some = list_any_at (λ x. x == 0) (text ++ 0 ∷ there.rest) (length text) 0
    (omega (arith, length-append text (0 ∷ there.rest))) (ap (λ x. x == 0) (get_or_at text 0 there.rest 0 (length text) refl)) in
    let all = ap length there.parts in
    let both = length-append there.front (text ++ 0 ∷ there.rest) in
    let behind = length-append text (0 ∷ there.rest) in
    let size = there.size in
    record {
      told = ap (before_first (λ x. x == 0)) from ∙ free_front text there.rest free;
      ends = ap (list_any (λ x. x == 0)) from ∙ some;
      below = omega arith;
    }

place_some : (o : Option ℕ) → IsSome o → o ≡ Some (unwrap_or o 0)
place_some None some = cc
place_some (Some p) some = refl

-- a text without a zero byte that is held stands at its place
pub text_told : (texts : List (List ℕ)) (text : List ℕ) → Contains texts text → IsZeroFree text
    → Told (section_of texts) (text_place texts text) text
text_told texts text there free =
    let held = (place-iff text texts (place_of text texts) refl).1 there in
    told_parts (section_of texts) (text_place texts text) text free (place_parts text texts (text_place texts text)
    (place_some (place_of text texts) held))

-- Which texts are held

with_keeps : (text : List ℕ) (held : List (List ℕ)) (other : List ℕ) → Contains held other → Contains (with_text text held) other
with_keeps text held other there = go (is_some (place_of text held))
  where
    go : (b : Bool) → Contains (cond b held (held ++ text ∷ [])) other
    go true = there
    go false = Contains-append_left held (text ∷ []) other there

with_has : (text : List ℕ) (held : List (List ℕ)) → Contains (with_text text held) text
with_has text held = go (is_some (place_of text held)) refl
  where
    go : (b : Bool) → is_some (place_of text held) ≡ b → Contains (cond b held (held ++ text ∷ [])) text
    go true is = (place-iff text held (place_of text held) refl).0 is
    go false is = Contains-push held text

all_keep : (texts held : List (List ℕ)) (other : List ℕ) → Contains held other → Contains (with_texts held texts) other
all_keep [] held other there = there
all_keep (text ∷ texts) held other there = all_keep texts (with_text text held) other (with_keeps text held other there)

all_have : (texts held : List (List ℕ)) (other : List ℕ) → Contains texts other → Contains (with_texts held texts) other
all_have [] held other there = absurd (contains_none other there)
all_have (text ∷ texts) held other there =
    elim (contains_cases text texts other there) [
      | inl same ↦ all_keep texts (with_text text held) other (subst (Contains (with_text text held)) same (with_has text held))
      | inr later ↦ all_have texts (with_text text held) other later
    ]

-- each piece of each name is
pub piece_held : (names : List (List ℕ)) (name piece : List ℕ) → Contains names name → Contains (pieces (split name)) piece
    → Contains (texts_of names) piece
piece_held names name piece there among =
    all_have (flat_map (λ n. pieces (split n)) names) ([] ∷ codes "class" ∷ []) piece (contains_flat_map (λ n. pieces (split n))
    names name piece there among)

-- no text is held twice
with_differs : (text : List ℕ) (held : List (List ℕ)) → AllPairs (λ a b. a ≢ b) held → AllPairs (λ a b. a ≢ b) (with_text text held)
with_differs text held differ = go (is_some (place_of text held)) refl
  where
    go : (b : Bool) → is_some (place_of text held) ≡ b → AllPairs (λ a b. a ≢ b) (cond b held (held ++ text ∷ []))
    go true is = differ
    go false is = pairs_append (λ a b. a ≢ b) held (text ∷ []) differ (AllPairs-cons (λ a b. a ≢ b) text []
        (All-nil (λ b. text ≢ b)) (pairs_none (λ a b. a ≢ b))) across
      where
        across : (x y : List ℕ) → Contains held x → Contains (text ∷ []) y → x ≢ y
        across x y here there same =
            elim (contains_cases text [] y there) [
              | inl first ↦
                  let among : Contains held text = subst (Contains held) (same ∙ sym first) here in
                  let held_there : is_some (place_of text held) ≡ true = (place-iff text held (place_of text held) refl).1 among in
                  false≢true (sym is ∙ held_there)
              | inr none ↦ contains_none y none
            ]

all_differ : (texts held : List (List ℕ)) → AllPairs (λ a b. a ≢ b) held → AllPairs (λ a b. a ≢ b) (with_texts held texts)
all_differ [] held differ = differ
all_differ (text ∷ texts) held differ = all_differ texts (with_text text held) (with_differs text held differ)

-- the first text stays the first
front_kept : (first : List ℕ) (rest texts : List (List ℕ)) → (more : List (List ℕ)) × (with_texts (first ∷ rest) texts ≡ first ∷ more)
front_kept first rest [] = (rest, refl)
front_kept first rest (text ∷ texts) = go (is_some (place_of text (first ∷ rest))) (front_kept first rest texts)
    (front_kept first (rest ++ text ∷ []) texts)
  where
    go : (b : Bool) → (more : List (List ℕ)) × (with_texts (first ∷ rest) texts ≡ first ∷ more) → (more : List (List ℕ))
        × (with_texts (first ∷ (rest ++ text ∷ [])) texts ≡ first ∷ more) → (more : List (List ℕ))
        × (with_texts (cond b (first ∷ rest) ((first ∷ rest) ++ text ∷ [])) texts ≡ first ∷ more)
    go true short long = short
    go false short long = long

-- Names

-- the bytes of a piece are bytes of the name
module_within : (text : List ℕ) (x : ℕ) → Contains text x → Contains (module_front text) x
module_within [] x there = absurd (contains_none x there)
module_within (b ∷ bs) x there = contains_later 47 ((b ∷ bs) ++ 47 ∷ []) x (Contains-append_left (b ∷ bs) (47 ∷ []) x there)

parent_within : (text : List ℕ) (x : ℕ) → Contains text x → Contains (parent_front text) x
parent_within [] x there = absurd (contains_none x there)
parent_within (b ∷ bs) x there = Contains-append_left (b ∷ bs) (47 ∷ []) x there

ext_within : (text : List ℕ) (x : ℕ) → Contains text x → Contains (ext_end text) x
ext_within [] x there = absurd (contains_none x there)
ext_within (b ∷ bs) x there = contains_later 46 (b ∷ bs) x there

-- no piece has a zero byte where the name has none
pub record PiecesFree (cut : Cut) : Type 0 where
  pub «module» : IsZeroFree cut.«module»
  pub parent : IsZeroFree cut.parent
  pub base : IsZeroFree cut.base
  pub ext : IsZeroFree cut.ext

pub pieces_free : (cut : Cut) → IsZeroFree (join cut) → PiecesFree cut
pieces_free cut free =
    let m : List ℕ = module_front cut.«module» in
    let p : List ℕ = parent_front cut.parent in
    let e : List ℕ = ext_end cut.ext in
    record {
      «module» = λ there. free (Contains-append_left m (p ++ (cut.base ++ e)) 0 (module_within cut.«module» 0 there));
      parent = λ there. free (Contains-append_right m (p ++ (cut.base ++ e)) 0 (Contains-append_left p (cut.base ++ e) 0
          (parent_within cut.parent 0 there)));
      base = λ there. free (Contains-append_right m (p ++ (cut.base ++ e)) 0 (Contains-append_right p (cut.base ++ e) 0
          (Contains-append_left cut.base e 0 there)));
      ext = λ there. free (Contains-append_right m (p ++ (cut.base ++ e)) 0 (Contains-append_right p (cut.base ++ e) 0
          (Contains-append_right cut.base e 0 (ext_within cut.ext 0 there))));
    }

-- the four pieces of a name stand at their places
pub record CutTold (texts : List (List ℕ)) (cut : Cut) : Type 0 where
  pub «module» : Told (section_of texts) (text_place texts cut.«module») cut.«module»
  pub parent : Told (section_of texts) (text_place texts cut.parent) cut.parent
  pub base : Told (section_of texts) (text_place texts cut.base) cut.base
  pub ext : Told (section_of texts) (text_place texts cut.ext) cut.ext

pub name_told : (names : List (List ℕ)) (name : List ℕ) → Contains names name → IsZeroFree name → CutTold (texts_of names) (split name)
name_told names name there free =
    let cut : Cut = split name in
    let frees = pieces_free cut (subst IsZeroFree (sym (join-split name)) free) in
    let held : (piece : List ℕ) → Contains (pieces cut) piece → Contains (texts_of names) piece = λ piece among. piece_held names
    name piece there among in
    record {
      «module» = text_told (texts_of names) cut.«module» (held cut.«module» (0, omega arith, refl)) frees.«module»;
      parent = text_told (texts_of names) cut.parent (held cut.parent (1, omega arith, refl)) frees.parent;
      base = text_told (texts_of names) cut.base (held cut.base (2, omega arith, refl)) frees.base;
      ext = text_told (texts_of names) cut.ext (held cut.ext (3, omega arith, refl)) frees.ext;
    }

join_same : (m n p q b c e f : List ℕ) → m ≡ n → p ≡ q → b ≡ c → e ≡ f
    → join (record { «module» = m; parent = p; base = b; ext = e }) ≡ join (record { «module» = n; parent = q; base = c; ext = f })
join_same m n p q b c e f one two three four = ap (λ l. join (record { «module» = l; parent = p; base = b; ext = e })) one
    ∙ ap (λ l. join (record { «module» = n; parent = l; base = b; ext = e })) two
    ∙ ap (λ l. join (record { «module» = n; parent = q; base = l; ext = e })) three
    ∙ ap (λ l. join (record { «module» = n; parent = q; base = c; ext = l })) four

-- the row of a name tells the name
pub row_tells : (texts : List (List ℕ)) (name : List ℕ) (offset size : ℕ) → CutTold texts (split name)
    → name_of (section_of texts) (row_with texts (split name) offset size) ≡ name
row_tells texts name offset size told =
    let cut : Cut = split name in
    join_same (text_at (section_of texts) (text_place texts cut.«module»)) cut.«module» (text_at (section_of texts)
    (text_place texts cut.parent)) cut.parent (text_at (section_of texts) (text_place texts cut.base)) cut.base
    (text_at (section_of texts) (text_place texts cut.ext)) cut.ext told.«module».told told.parent.told told.base.told told.ext.told
    ∙ join-split name

-- a blank row tells the name without a byte
pub blank_tells : (names : List (List ℕ)) → name_of (section_of (texts_of names)) blank ≡ []
blank_tells names =
    let front = front_kept [] (codes "class" ∷ []) (flat_map (λ n. pieces (split n)) names) in
    ap (λ texts. name_of (section_of texts) blank) front.1
