-- Texts, each with a place (this project's rule).
use Rattle.std.specs.Prelude.{if◌then◌else◌, ℕ, ◌≡◌, List, [], ◌∷◌, Option, Some, None, AllPairs}
use Rattle.std.specs.Prelude.{IsTrue, map}
use Rattle.std.specs.Str.{bytes_eq}
use Rattle.std.specs.Cmp.Lexicographic.{slice_cmp}
use Rattle.std.specs.Ordering.{is_lt, nat_cmp}
use Rattle.std.specs.BTreeMap.{BTreeMap}
use Rattle.std.specs.declared.vec.Vec.{Vec}
use Rattle.std.specs.declared.alloc.Global.{Global}

-- the place of a text, or none
abbrev pub place_in : List (List ℕ × ℕ) → List ℕ → Option ℕ
place_in [] text = None
place_in (p ∷ ps) text = if bytes_eq text p.0 then Some p.1 else place_in ps text

-- the text has this place, and every other one the place that it had
abbrev pub Puts : List (List ℕ × ℕ) → List (List ℕ × ℕ) → List ℕ → ℕ → Type 0
Puts old new text place =
    (other : List ℕ) →
    place_in new other ≡ (if bytes_eq other text then Some place else place_in old other)

-- the texts rise in byte order, a proper prefix first
abbrev pub AreRising : List (List ℕ × ℕ) → Type 0
AreRising = AllPairs (λ p q. IsTrue (is_lt (slice_cmp nat_cmp p.0 q.0)))

-- the texts and places of a map
abbrev pub places_of : BTreeMap (Vec ℕ Global) ℕ → List (List ℕ × ℕ)
places_of m = map (λ e. (e.0.items, e.1)) m.entries
