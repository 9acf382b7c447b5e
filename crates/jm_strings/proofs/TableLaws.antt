-- The list of texts against the section and the entries that hold it.
use Rattle.std.proofs.Common.{◌≡◌, ℕ, ◌+◌, ◌≤◌, Bool, true, false, cond, List, [], ◌∷◌, ◌++◌, Option, Some}
use Rattle.std.proofs.Common.{None, Result, Ok, Err, is_err, OnOk, length, map, refl, sym, ap, ◌∙◌, arith}
use Rattle.std.proofs.Common.{option_map}
use Rattle.std.proofs.lemmas.List.{map-append}
use Rattle.std.proofs.lemmas.List.Elements.{All-push}
use Rattle.std.specs.Map.{lookup}
use Rattle.std.specs.Str.{bytes_eq}
use Rattle.std.specs.declared.vec.Vec.{Vec}
use Rattle.std.specs.declared.alloc.Global.{Global}
use Rattle.jm_form.proofs.StringsLaws.{length-first, section-push}
use Rattle.jm_form.specs.Strings.{place_of, section_of, IsZeroFree}
use Rattle.jm_strings.specs.Limit.{limit}
use Rattle.jm_strings.specs.Table.{texts_of, with_places, Agrees}

-- what holds after an Ok, where there was no Err
pub not_refused : {T E P : Type 0} (r : Result T E) → OnOk r P → false ≡ is_err r → P
not_refused (Ok x) holds none = holds
not_refused (Err e) holds none = cc

-- One text more

with_places-push : (place : ℕ) (texts : List (List ℕ)) (text : List ℕ) → with_places place (texts ++ text ∷ [])
    ≡ with_places place texts ++ (text, place + length (section_of texts)) ∷ []
with_places-push place [] text = let same : place ≡ place + 0 = omega arith in ap (λ (n : ℕ). (text, n) ∷ []) same
with_places-push place (first ∷ texts) text =
    let size = length-first first texts in
    let same : (place + (length first + 1)) + length (section_of texts) ≡ place + length (section_of (first ∷ texts)) =
    omega (arith, size) in
    ap (λ l. (first, place) ∷ l) (with_places-push (place + (length first + 1)) texts text
    ∙ ap (λ (n : ℕ). with_places (place + (length first + 1)) texts ++ (text, n) ∷ []) same)

-- The entries

moved_by : (place step : ℕ) (o : Option ℕ) → option_map (λ n. (place + step) + n) o
    ≡ option_map (λ n. place + n) (option_map (λ n. step + n) o)
moved_by place step None = refl
moved_by place step (Some n) = let same : (place + step) + n ≡ place + (step + n) = omega arith in ap (λ (k : ℕ). Some k) same

lookup-with_places : (text : List ℕ) (place : ℕ) (texts : List (List ℕ)) → lookup (λ other. bytes_eq text other)
    (with_places place texts) ≡ option_map (λ n. place + n) (place_of text texts)
lookup-with_places text place [] = refl
lookup-with_places text place (first ∷ texts) = go (bytes_eq text first) (lookup-with_places text (place + (length first + 1)) texts)
  where
    go : (b : Bool) → lookup (λ other. bytes_eq text other) (with_places (place + (length first + 1)) texts)
        ≡ option_map (λ n. (place + (length first + 1)) + n) (place_of text texts)
        → cond b (Some place) (lookup (λ other. bytes_eq text other) (with_places (place + (length first + 1)) texts))
        ≡ option_map (λ n. place + n) (cond b (Some 0) (option_map (λ n. (length first + 1) + n) (place_of text texts)))
    go true rest = let same : place ≡ place + 0 = omega arith in ap (λ (k : ℕ). Some k) same
    go false rest = rest ∙ moved_by place (length first + 1) (place_of text texts)

module _ {K : Type 0} (key : K → List ℕ) where
  lookup-keyed : (text : List ℕ) (es : List (K × ℕ)) → lookup (λ k. bytes_eq text (key k)) es
      ≡ lookup (λ other. bytes_eq text other) (map (λ e. (key e.0, e.1)) es)
  lookup-keyed text [] = refl
  lookup-keyed text (e ∷ es) = ap (cond (bytes_eq text (key e.0)) (Some e.1)) (lookup-keyed text es)

  from_front : (o : Option ℕ) → option_map (λ n. 0 + n) o ≡ o
  from_front None = refl
  from_front (Some n) = let same : 0 + n ≡ n = omega arith in ap (λ (k : ℕ). Some k) same

  -- the entry of a text has its place
  pub lookup-place : (text : List ℕ) (es : List (K × ℕ)) → map (λ e. (key e.0, e.1)) es ≡ with_places 0 (map (λ e. key e.0) es)
      → lookup (λ k. bytes_eq text (key k)) es ≡ place_of text (map (λ e. key e.0) es)
  lookup-place text es places =
      lookup-keyed text es ∙ ap (lookup (λ other. bytes_eq text other)) places ∙ lookup-with_places text 0 (map (λ e. key e.0) es)
      ∙ from_front (place_of text (map (λ e. key e.0) es))

-- section and entries with one text more
pub agrees-push : (section : List ℕ) (es : List (Vec ℕ Global × ℕ)) (text : List ℕ) (k : Vec ℕ Global) (place : ℕ)
    → Agrees section es → k.items ≡ text → place ≡ length section → IsZeroFree text → length (section_of (texts_of es ++ text ∷ []))
    ≤ limit → Agrees (section ++ (text ++ 0 ∷ [])) (es ++ (k, place) ∷ [])
agrees-push section es text k place agrees is at free within =
    let longer : texts_of (es ++ (k, place) ∷ []) ≡ texts_of es ++ text ∷ [] = map-append (λ e. e.0.items) es ((k, place) ∷ [])
    ∙ ap (λ t. texts_of es ++ t ∷ []) is in
    let bytes : section ++ (text ++ 0 ∷ []) ≡ section_of (texts_of es ++ text ∷ []) = ap (λ l. l ++ (text ++ 0 ∷ [])) agrees.bytes
    ∙ sym (section-push (texts_of es) text) in
    let size : place ≡ 0 + length (section_of (texts_of es)) = omega (arith, at, ap length agrees.bytes) in
    let pair : (k.items, place) ≡ (text, 0 + length (section_of (texts_of es))) = rw (is, size) refl in
    let places : map (λ e. (e.0.items, e.1)) (es ++ (k, place) ∷ []) ≡ with_places 0 (texts_of es ++ text ∷ []) =
    map-append (λ e. (e.0.items, e.1)) es ((k, place) ∷ []) ∙ ap (λ l. l ++ (k.items, place) ∷ []) agrees.places
    ∙ ap (λ p. with_places 0 (texts_of es) ++ p ∷ []) pair ∙ sym (with_places-push 0 (texts_of es) text) in
    record {
      bytes = bytes ∙ ap section_of (sym longer);
      places = places ∙ ap (with_places 0) (sym longer);
      zero_free = rw longer (All-push IsZeroFree (texts_of es) text agrees.zero_free free);
      within = rw bytes within;
    }
