-- The places of texts among others: they stay where others are added, and rows are those of the
-- places.
use Rattle.std.proofs.Common.{◌≡◌, ℕ, ◌+◌, Bool, true, false, cond, List, [], ◌∷◌, ◌++◌, length, map, Option}
use Rattle.std.proofs.Common.{Some, None, is_some, option_map, unwrap_or, refl, ap, ◌∙◌}
use Rattle.std.specs.Str.{bytes_eq}
use Rattle.jm_names.specs.Names.{Cut, split}
use Rattle.jm_form.specs.Strings.{place_of, with_text}
use Rattle.jm_form.specs.Layout.{row_with, rows_from, with_texts}
use Rattle.jm_writer.specs.declared.interning.TextPlaces.{TextPlaces}
use Rattle.jm_writer.specs.Parts.{StandAt, places_in, rows_at, sized_as}

push_stays : (text other : List ℕ) (held : List (List ℕ)) (place : ℕ) → place_of text held ≡ Some place
    → place_of text (held ++ other ∷ []) ≡ Some place
push_stays text other [] place is = cc
push_stays text other (first ∷ held) place is = go (bytes_eq text first) (place_of text held) refl is (push_stays text other held)
  where
    go : (b : Bool) (o : Option ℕ) → place_of text held ≡ o → cond b (Some 0) (option_map (λ (p : ℕ). (length first + 1) + p) o)
        ≡ Some place → ((p : ℕ) → place_of text held ≡ Some p → place_of text (held ++ other ∷ []) ≡ Some p)
        → cond b (Some 0) (option_map (λ (p : ℕ). (length first + 1) + p) (place_of text (held ++ other ∷ []))) ≡ Some place
    go true o same is later = is
    go false None same is later = cc
    go false (Some p) same is later = ap (option_map (λ (p : ℕ). (length first + 1) + p)) (later p same) ∙ is

once_stays : (text other : List ℕ) (held : List (List ℕ)) (place : ℕ) → place_of text held ≡ Some place
    → place_of text (with_text other held) ≡ Some place
once_stays text other held place is = go (is_some (place_of other held))
  where
    go : (b : Bool) → place_of text (cond b held (held ++ other ∷ [])) ≡ Some place
    go true = is
    go false = push_stays text other held place is

-- a text that is held keeps its place where others are added
pub place_stays : (text : List ℕ) (held texts : List (List ℕ)) (place : ℕ) → place_of text held ≡ Some place
    → place_of text (with_texts held texts) ≡ Some place
place_stays text held [] place is = is
place_stays text held (other ∷ texts) place is = place_stays text (with_text other held) texts place (once_stays text other held place is)

-- so do the pieces of a name
pub pieces_stay : (held texts : List (List ℕ)) (cut : Cut) (places : TextPlaces) → StandAt held cut places
    → StandAt (with_texts held texts) cut places
pieces_stay held texts cut places there = record {
  «module» = place_stays cut.module held texts places.module there.module;
  parent = place_stays cut.parent held texts places.parent there.parent;
  base = place_stays cut.base held texts places.base there.base;
  ext = place_stays cut.ext held texts places.ext there.ext;
}

-- the places at which the pieces stand are those that are looked up
pub stand_in : (held : List (List ℕ)) (cut : Cut) (places : TextPlaces) → StandAt held cut places → places_in held cut ≡ places
stand_in held cut places there =
    let found : (o : Option ℕ) (p : ℕ) → o ≡ Some p → unwrap_or o 0 ≡ p = λ o p is. ap (λ o. unwrap_or o 0) is in
    let m = found (place_of cut.module held) places.module there.module in
    let p = found (place_of cut.parent held) places.parent there.parent in
    let b = found (place_of cut.base held) places.base there.base in
    let e = found (place_of cut.ext held) places.ext there.ext in
    cc

-- the rows by the places of all pieces are the rows of the entries
pub rows_by_places : (texts : List (List ℕ)) (offset : ℕ) (names : List (List ℕ)) (sizes : List ℕ)
    → rows_at offset (map (λ name. places_in texts (split name)) names) sizes ≡ rows_from texts offset (sized_as names sizes)
rows_by_places texts offset [] sizes = refl
rows_by_places texts offset (name ∷ names) [] = refl
rows_by_places texts offset (name ∷ names) (size ∷ sizes) =
    ap (λ rows. row_with texts (split name) offset size ∷ rows) (rows_by_places texts (offset + size) names sizes)
