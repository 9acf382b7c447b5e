-- How the section and the map of texts to places hold the list of texts.
use Rattle.std.specs.Prelude.{ℕ, ◌+◌, ◌≤◌, ◌≡◌, List, [], ◌∷◌, map, length, All}
use Rattle.std.specs.declared.vec.Vec.{Vec}
use Rattle.std.specs.declared.alloc.Global.{Global}
use Rattle.jm_form.specs.Strings.{section_of, IsZeroFree}
use Rattle.jm_strings.specs.Limit.{limit}

-- the texts that a map's entries hold, in the order of the entries
abbrev pub texts_of : List (Vec ℕ Global × ℕ) → List (List ℕ)
texts_of entries = map (λ e. e.0.items) entries

-- texts with their places, the first at the given one
abbrev pub with_places : ℕ → List (List ℕ) → List (List ℕ × ℕ)
with_places place [] = []
with_places place (text ∷ texts) = (text, place) ∷ with_places (place + (length text + 1)) texts

-- the section and the map's entries hold the same texts, at the same places
pub record Agrees (section : List ℕ) (entries : List (Vec ℕ Global × ℕ)) : Type 0 where
  pub bytes : section ≡ section_of (texts_of entries)
  pub places : map (λ e. (e.0.items, e.1)) entries ≡ with_places 0 (texts_of entries)
  pub zero_free : All IsZeroFree (texts_of entries)
  pub within : length section ≤ limit
