-- Where the parts of an image stand: behind the header the redirect words, the offset words, the
-- locations, the strings and the contents (jimage 1.0). Places count bytes from the image's front.
use Rattle.std.specs.Prelude.{ℕ, ◌+◌, ◌-◌, ◌*◌, List, take, drop}
use Rattle.jm_bytes.specs.Word.{word}
use Rattle.jm_form.specs.declared.container.Header.{Header}
use Rattle.jm_form.specs.Head.{index_length}

-- where the redirect word of a bucket stands
abbrev pub redirect_place : ℕ → ℕ
redirect_place bucket = 28 + 4 * bucket

-- where the offset word of a slot stands
abbrev pub offset_place : Header → ℕ → ℕ
offset_place h slot = 28 + 4 * h.length + 4 * slot

-- where the locations begin
abbrev pub locations_place : Header → ℕ
locations_place h = 28 + 8 * h.length

-- where the strings begin
abbrev pub strings_place : Header → ℕ
strings_place h = 28 + 8 * h.length + h.locations

-- The words and sections that stand there

-- the redirect word of a bucket
abbrev pub redirect_word : List ℕ → Header → ℕ → ℕ
redirect_word b h bucket = word h.order b (redirect_place bucket)

-- the offset word of a slot
abbrev pub offset_word : List ℕ → Header → ℕ → ℕ
offset_word b h slot = word h.order b (offset_place h slot)

-- the section of the locations
abbrev pub locations : List ℕ → Header → List ℕ
locations b h = take h.locations (drop (locations_place h) b)

-- the section of the strings
abbrev pub strings : List ℕ → Header → List ℕ
strings b h = take h.strings (drop (strings_place h) b)

-- all that stands behind the index
abbrev pub contents : List ℕ → Header → List ℕ
contents b h = drop (index_length h) b

-- how many bytes stand behind the index in a file of so many
abbrev pub contents_size : ℕ → Header → ℕ
contents_size size h = size - index_length h
