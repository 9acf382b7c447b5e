-- Small images, byte for byte.
use Rattle.std.specs.Prelude.{ℕ, List, [], ◌∷◌, ◌++◌, codes}

-- little-endian words of small numbers
abbrev pub little : ℕ → List ℕ
little n = n ∷ 0 ∷ 0 ∷ 0 ∷ []

-- the magic and version 1.0, with the lowest byte first, and no flags
abbrev pub little_front : List ℕ
little_front = 0xDA ∷ 0xDA ∷ 0xFE ∷ 0xCA ∷ 0 ∷ 0 ∷ 1 ∷ 0 ∷ little 0

-- the redirect word -1, which leads to slot 0, and -2, which leads to slot 1
abbrev pub to_slot_0 : List ℕ
to_slot_0 = 0xFF ∷ 0xFF ∷ 0xFF ∷ 0xFF ∷ []

abbrev pub to_slot_1 : List ℕ
to_slot_1 = 0xFE ∷ 0xFF ∷ 0xFF ∷ 0xFF ∷ []

-- the empty text and `class`, with which the strings of a written image begin
abbrev pub first_strings : List ℕ
first_strings = 0 ∷ (codes "class" ++ 0 ∷ [])

-- one entry `/m/a` that holds `hi`; 57 bytes
abbrev pub tiny : List ℕ
tiny =
    little_front ++ little 1 ++ little 1 ++ little 8 ++ little 11
    ++ to_slot_0 ++ little 1
    ++ (0 ∷ 8 ∷ 7 ∷ 24 ∷ 9 ∷ 56 ∷ 2 ∷ 0 ∷ [])
    ++ first_strings ++ (109 ∷ 0 ∷ 97 ∷ 0 ∷ [])
    ++ codes "hi"

-- the same with the highest byte first in all words
abbrev pub big_tiny : List ℕ
big_tiny =
    (0xCA ∷ 0xFE ∷ 0xDA ∷ 0xDA ∷ 0 ∷ 1 ∷ 0 ∷ 0 ∷ [])
    ++ (0 ∷ 0 ∷ 0 ∷ 0 ∷ 0 ∷ 0 ∷ 0 ∷ 1 ∷ 0 ∷ 0 ∷ 0 ∷ 1 ∷ 0 ∷ 0 ∷ 0 ∷ 8 ∷ 0 ∷ 0 ∷ 0 ∷ 11 ∷ [])
    ++ to_slot_0 ++ (0 ∷ 0 ∷ 0 ∷ 1 ∷ [])
    ++ (0 ∷ 8 ∷ 7 ∷ 24 ∷ 9 ∷ 56 ∷ 2 ∷ 0 ∷ [])
    ++ first_strings ++ (109 ∷ 0 ∷ 97 ∷ 0 ∷ [])
    ++ codes "hi"

-- `/m/b` in slot 0 and `/m/a` in slot 1, both on the same two bytes; 74 bytes
abbrev pub overlapping : List ℕ
overlapping =
    little_front ++ little 2 ++ little 2 ++ little 15 ++ little 13
    ++ to_slot_0 ++ to_slot_1 ++ little 1 ++ little 8
    ++ (0 ∷ 8 ∷ 7 ∷ 24 ∷ 11 ∷ 56 ∷ 2 ∷ 0 ∷ 8 ∷ 7 ∷ 24 ∷ 9 ∷ 56 ∷ 2 ∷ 0 ∷ [])
    ++ first_strings ++ (109 ∷ 0 ∷ 97 ∷ 0 ∷ 98 ∷ 0 ∷ [])
    ++ codes "hi"

-- the same with both sizes left out
abbrev pub side_by_side : List ℕ
side_by_side =
    little_front ++ little 2 ++ little 2 ++ little 11 ++ little 13
    ++ to_slot_0 ++ to_slot_1 ++ little 1 ++ little 6
    ++ (0 ∷ 8 ∷ 7 ∷ 24 ∷ 11 ∷ 0 ∷ 8 ∷ 7 ∷ 24 ∷ 9 ∷ 0 ∷ [])
    ++ first_strings ++ (109 ∷ 0 ∷ 97 ∷ 0 ∷ 98 ∷ 0 ∷ [])
    ++ codes "hi"

-- the image of no resource: its two nodes; 85 bytes
abbrev pub empty : List ℕ
empty =
    little_front ++ little 2 ++ little 3 ++ little 7 ++ little 26
    ++ to_slot_0 ++ to_slot_1 ++ little 0
    ++ little 1 ++ little 4 ++ little 0
    ++ (0 ∷ 24 ∷ 17 ∷ 0 ∷ 24 ∷ 7 ∷ 0 ∷ [])
    ++ first_strings ++ codes "/packages" ++ 0 ∷ [] ++ codes "/modules" ++ 0 ∷ []

-- no slot; 28 bytes
abbrev pub no_entries : List ℕ
no_entries = little_front ++ little 0 ++ little 0 ++ little 0 ++ little 0
