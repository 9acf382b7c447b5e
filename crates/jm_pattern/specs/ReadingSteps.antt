-- How far the reading of a text or of a list has come (words of the proof).
use Rattle.std.specs.Prelude.{◌≡◌, ◌+◌, ◌-◌, ◌++◌, ◌∷◌, [], ℕ, List, Option, Some, None, length}
use Rattle.jm_pattern.specs.ComputedReading.{with_front, signs_from}
use Rattle.jm_pattern.specs.Items.{onto_first, items_of}
use Rattle.jm_pattern.specs.declared.signs.Sign.{Sign}

-- a text reads as one sign and what the rest reads as
abbrev pub ReadsFirst : List ℕ → Sign → List ℕ → Type 0
ReadsFirst text sign rest =
    (at : ℕ) → signs_from at text
    ≡ with_front (sign ∷ []) (signs_from (at + (length text - length rest)) rest)

-- the items behind a list's first: those of what the `,` that ends it leaves
abbrev pub items_behind : Option (List ℕ) → List (List ℕ)
items_behind None = []
items_behind (Some text) = items_of text

-- some bytes of the first item, and what follows them
abbrev pub GoesOn : List ℕ → List ℕ → Type 0
GoesOn text rest =
    (front : List ℕ) × (text ≡ front ++ rest) × (items_of text ≡ onto_first front (items_of rest))

-- the first item ends here: at a `,`, or at the end of the list
abbrev pub EndsItem : List ℕ → Type 0
EndsItem [] = Unit {0}
EndsItem (b ∷ text) = b ≡ 44
