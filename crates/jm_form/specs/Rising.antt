-- Texts in byte order, which compares unsigned bytes and puts a proper prefix first (this project's
-- rule for all that rises by name).
use Rattle.std.specs.Prelude.{ℕ, List, [], ◌∷◌, map}
use Rattle.std.specs.Cmp.Lexicographic.{slice_cmp}
use Rattle.std.specs.Ordering.{nat_cmp, match_ordering}
use Rattle.std.specs.declared.vec.Vec.{Vec}
use Rattle.std.specs.declared.alloc.Global.{Global}

-- rising texts with one more; one that is there isn't put again
abbrev pub with_placed : List ℕ → List (List ℕ) → List (List ℕ)
with_placed text [] = text ∷ []
with_placed text (first ∷ texts) =
    match_ordering (slice_cmp nat_cmp text first)
    (text ∷ first ∷ texts) (first ∷ texts) (first ∷ with_placed text texts)

-- the texts, each once, in byte order
abbrev pub rising : List (List ℕ) → List (List ℕ)
rising [] = []
rising (text ∷ texts) = with_placed text (rising texts)

-- owned texts as lists of bytes
abbrev pub items_of : List (Vec ℕ Global) → List (List ℕ)
items_of texts = map (λ v. v.items) texts
