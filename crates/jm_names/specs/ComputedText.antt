-- The length of the longest text in front of some bytes, computed one character after another. The
-- rule is `IsLongestText` of Characters; proofs/ComputedTextLaws ties the two together.
use Rattle.std.specs.Prelude.{ℕ, zero, suc, ◌+◌, ◌==◌, List, length, take, drop, if◌then◌else◌}
use Rattle.jm_names.specs.Characters.{is_character}

-- the length of the character in front, or 0 where none stands there
abbrev pub character_len : List ℕ → ℕ
character_len bytes =
    if is_character (take 1 bytes) then 1
    else if is_character (take 2 bytes) then 2
    else if is_character (take 3 bytes) then 3
    else if is_character (take 6 bytes) then 6
    else 0

-- the length of the run of at most so many characters in front
abbrev pub run_len : ℕ → List ℕ → ℕ
run_len zero bytes = 0
run_len (suc most) bytes =
    if character_len bytes == 0 then 0
    else character_len bytes + run_len most (drop (character_len bytes) bytes)

-- the length of the longest front that is a run of characters
abbrev pub text_len : List ℕ → ℕ
text_len bytes = run_len (length bytes) bytes
