-- How a comma list of patterns is cut and read (this project's rule); 44 is `,` and 92 is `\`.
use Rattle.std.specs.Prelude.{◌==◌, ◌||◌, ◌+◌, ◌++◌, ◌∷◌, [], ℕ, Bool, List, Result, Ok, Err, drop}
use Rattle.std.specs.Prelude.{nat_eq, if◌then◌else◌, codes}
use Rattle.std.specs.List.{starts_with}
use Rattle.jm_pattern.specs.ComputedReading.{with_front, pattern_of}
use Rattle.jm_pattern.specs.declared.signs.Sign.{Sign}
use Rattle.jm_pattern.specs.declared.signs.PatternFault.{PatternFault}
use Rattle.jm_pattern.specs.declared.signs.PatternFault.TheVariants.{Prefix}

-- bytes at the front of the first item
abbrev pub onto_first : List ℕ → List (List ℕ) → List (List ℕ)
onto_first front [] = front ∷ []
onto_first front (item ∷ items) = (front ++ item) ∷ items

-- the items of a list: `\` takes the next byte with it, and each `,` that isn't so taken cuts
abbrev pub items_of : List ℕ → List (List ℕ)
items_of [] = [] ∷ []
items_of (b ∷ []) = if b == 44 then [] ∷ [] ∷ [] else (b ∷ []) ∷ []
items_of (b ∷ c ∷ text) =
    if b == 92 then onto_first (b ∷ c ∷ []) (items_of text)
    else if b == 44 then [] ∷ items_of (c ∷ text)
    else onto_first (b ∷ []) (items_of (c ∷ text))

-- an item begins with `regex:` or `@`
abbrev pub is_refused : List ℕ → Bool
is_refused item = starts_with nat_eq item (codes "regex:") || starts_with nat_eq item (codes "@")

-- an item without its `glob:`, which is taken off once
abbrev pub without_glob : List ℕ → List ℕ
without_glob item = if starts_with nat_eq item (codes "glob:") then drop 5 item else item

-- an item as a pattern: its prefix is judged as it was cut
abbrev pub item_pattern : ℕ → List ℕ → Result (List Sign) PatternFault
item_pattern number item =
    if is_refused item then Err (Prefix number)
    else pattern_of (without_glob item)

-- a first item before the rest, or its fault
abbrev pub with_first : {A : Type 0} → Result A PatternFault
    → Result (List A) PatternFault → Result (List A) PatternFault
with_first (Ok first) rest = with_front (first ∷ []) rest
with_first (Err fault) rest = Err fault

-- the patterns of items from a number on; the least item with a fault decides
abbrev pub patterns_from : ℕ → List (List ℕ) → Result (List (List Sign)) PatternFault
patterns_from number [] = Ok []
patterns_from number (item ∷ items) =
    with_first (item_pattern number item) (patterns_from (number + 1) items)

-- the patterns of a comma list, or the fault of the least item that has one
abbrev pub list_of : List ℕ → Result (List (List Sign)) PatternFault
list_of text = patterns_from 0 (items_of text)
