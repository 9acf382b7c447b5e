-- Small images whose nodes are right, and one whose node isn't, byte for byte.
use Rattle.std.specs.Prelude.{ℕ, ◌+◌, List, [], ◌∷◌, ◌++◌, codes, take, drop}
use Rattle.jm_form.proofs.Vectors.{first_strings, little, little_front, to_slot_0}

-- `/packages` with two bytes, which are no word; 61 bytes
abbrev pub bad_node : List ℕ
bad_node =
    little_front ++ little 1 ++ little 1 ++ little 6 ++ little 17
    ++ to_slot_0 ++ little 1
    ++ (0 ∷ 24 ∷ 7 ∷ 56 ∷ 2 ∷ 0 ∷ [])
    ++ first_strings ++ codes "/packages" ++ 0 ∷ []
    ++ codes "hi"

-- the written image of `/a/p/A` that holds `hi`: six entries
abbrev pub one : List ℕ
one =
    218 ∷ 218 ∷ 254 ∷ 202 ∷ 0 ∷ 0 ∷ 1 ∷ 0 ∷ 0 ∷ 0 ∷ 0 ∷ 0 ∷ 6 ∷ 0 ∷ 0 ∷ 0 ∷ 6 ∷ 0 ∷ 0 ∷ 0 ∷
    51 ∷ 0 ∷ 0 ∷ 0 ∷ 53 ∷ 0 ∷ 0 ∷ 0 ∷ 255 ∷ 255 ∷ 255 ∷ 255 ∷ 254 ∷ 255 ∷ 255 ∷ 255 ∷ 0 ∷ 0 ∷
    0 ∷ 0 ∷ 1 ∷ 0 ∷ 0 ∷ 0 ∷ 7 ∷ 0 ∷ 0 ∷ 0 ∷ 0 ∷ 0 ∷ 0 ∷ 0 ∷ 1 ∷ 0 ∷ 0 ∷ 0 ∷ 10 ∷ 0 ∷ 0 ∷ 0 ∷
    17 ∷ 0 ∷ 0 ∷ 0 ∷ 26 ∷ 0 ∷ 0 ∷ 0 ∷ 35 ∷ 0 ∷ 0 ∷ 0 ∷ 44 ∷ 0 ∷ 0 ∷ 0 ∷ 0 ∷ 8 ∷ 7 ∷ 16 ∷ 9 ∷
    24 ∷ 11 ∷ 56 ∷ 2 ∷ 0 ∷ 24 ∷ 22 ∷ 40 ∷ 10 ∷ 56 ∷ 4 ∷ 0 ∷ 8 ∷ 32 ∷ 24 ∷ 40 ∷ 40 ∷ 14 ∷ 56 ∷
    4 ∷ 0 ∷ 8 ∷ 32 ∷ 24 ∷ 7 ∷ 40 ∷ 18 ∷ 56 ∷ 4 ∷ 0 ∷ 8 ∷ 13 ∷ 24 ∷ 9 ∷ 40 ∷ 2 ∷ 56 ∷ 8 ∷ 0 ∷
    24 ∷ 44 ∷ 40 ∷ 22 ∷ 56 ∷ 4 ∷ 0 ∷ 0 ∷ 99 ∷ 108 ∷ 97 ∷ 115 ∷ 115 ∷ 0 ∷ 97 ∷ 0 ∷ 112 ∷ 0 ∷
    65 ∷ 0 ∷ 112 ∷ 97 ∷ 99 ∷ 107 ∷ 97 ∷ 103 ∷ 101 ∷ 115 ∷ 0 ∷ 47 ∷ 112 ∷ 97 ∷ 99 ∷ 107 ∷ 97 ∷
    103 ∷ 101 ∷ 115 ∷ 0 ∷ 109 ∷ 111 ∷ 100 ∷ 117 ∷ 108 ∷ 101 ∷ 115 ∷ 0 ∷ 97 ∷ 47 ∷ 112 ∷ 0 ∷
    47 ∷ 109 ∷ 111 ∷ 100 ∷ 117 ∷ 108 ∷ 101 ∷ 115 ∷ 0 ∷ 104 ∷ 105 ∷ 0 ∷ 0 ∷ 0 ∷ 0 ∷ 7 ∷ 0 ∷ 0 ∷
    0 ∷ 35 ∷ 0 ∷ 0 ∷ 0 ∷ 1 ∷ 0 ∷ 0 ∷ 0 ∷ 17 ∷ 0 ∷ 0 ∷ 0 ∷ 26 ∷ 0 ∷ 0 ∷ 0 ∷ []

-- `/packages/`, the package without a name, which the module m has; 68 bytes
abbrev pub nameless : List ℕ
nameless =
    little_front ++ little 1 ++ little 1 ++ little 6 ++ little 18
    ++ to_slot_0 ++ little 1
    ++ (0 ∷ 8 ∷ 7 ∷ 56 ∷ 8 ∷ 0 ∷ [])
    ++ first_strings ++ codes "packages" ++ (0 ∷ 109 ∷ 0 ∷ [])
    ++ little 0 ++ little 16

-- an image with another byte at a place
abbrev pub with_byte : ℕ → ℕ → List ℕ → List ℕ
with_byte place byte image = take place image ++ byte ∷ drop (place + 1) image

-- `one` with 16 bytes as the content of `/packages/p`, from place 182 on: a module called `class`
-- has the package too, and it is empty there
abbrev pub two_owners : List ℕ
two_owners = with_byte 118 16 (with_byte 190 1 one)

-- `one` with 8 bytes as the content of `/modules/a`, from place 198 on: the folder itself is its
-- second child
abbrev pub two_children : List ℕ
two_children = with_byte 109 8 one
